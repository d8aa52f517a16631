-- Plain messages and INTEGRITY, told by their bytes: the size and the test that the code finds are those of the step that is
-- read there. Assumes nothing.
use Prim.Native.Nat.{ℕ, ◌+◌, ◌-◌, ◌<◌, ◌≤◌}
use native.Mathlib.Omega.{arith}
use mathlib.Core.Path.{◌≡◌, refl, sym, ap, ◌∙◌}
use mathlib.Core.Logic.{◌⊎◌, inl, inr}
use mathlib.Core.List.{List}
use mathlib.Core.Bool.{Bool, true, false, not, true≢false}
use lib.ListN.{length, get_or, take, drop, length-drop}
use lib.Dec.{ltb, eqb}
use borrow.Author.Tests.{lt-ltb, le-ltb, eq-eqb, ne_eqb, eqb-true, eqb-false, not-true, not-false}
use Rattle.base.specs.Pick.{pick}
use Rattle.wire.specs.Bytes.{be64}
use Rattle.wire.specs.Place.{first_of, last_of, integrity_size, is_empty, is_special, named_size, timed_size}
use Rattle.wire.specs.Read.{cursor, ack_at, ranged_at, typed, step_of, step_at, named, names_node, is_ranged}
use Rattle.wire.specs.Steps.{is_single, ranged_size, plain_size, plain_message, is_node, ack_size, some_size}
use Rattle.wire.specs.declared.message.Message.{Message}
use Rattle.wire.specs.declared.message.Message.TheVariants.{Ack, Integrity, Empty}
use Rattle.wire.specs.declared.message.Step.{Step}
use Rattle.wire.specs.declared.message.Step.TheVariants.{Read, Refused}
use Rattle.wire.proofs.BytesLaws.{part}
use Rattle.std.specs.Prelude.{Some}
use Rattle.wire.proofs.PlaceLaws.{not_none, none-order}
use Rattle.wire.proofs.SizeLaws.{size-said}
use Rattle.wire.proofs.ViewLaws.{View, the_end, refused, a_handshake, a_data, an_ack, a_have, an_integrity, a_request, a_cancel, a_choke, an_unchoke, view, an_empty, ranged_types}
use Rattle.wire.proofs.ViewLaws.{refusing, typed-is, end_is, choke-is, unchoke-is, integrity-is}
use Rattle.format.specs.declared.Format.{Format}

-- ---- the types

pub single_types : (k : ℕ) → is_single k ≡ true → (k ≡ 10) ⊎ (k ≡ 11)
unfolding is_single
single_types k = by (eqb k 10) refl
  where
    by : (b : Bool) → eqb k 10 ≡ b → pick b true (eqb k 11) ≡ true → (k ≡ 10) ⊎ (k ≡ 11)
    by true e h = inl (eqb-true k 10 e)
    by false e h = inr (eqb-true k 11 h)

pub ranged-high : (k : ℕ) → 8 ≤ k → k ≤ 9 → true ≡ is_ranged k
unfolding is_ranged
ranged-high k h l = by (eqb k 3) (eqb k 8) refl
  where
    by : (a b : Bool) → eqb k 8 ≡ b → true ≡ pick a true (pick b true (eqb k 9))
    by true b e = refl
    by false true e = refl
    by false false e = let n = eqb-false k 8 e in let q : k ≡ 9 = omega (arith, n) in sym (eq-eqb k 9 q)

pub ranged-none : (k : ℕ) → (k ≡ 3 → ⊥) → (k ≡ 8 → ⊥) → (k ≡ 9 → ⊥) → false ≡ is_ranged k
unfolding is_ranged
ranged-none k a b c = simp (ne_eqb k 3 a, ne_eqb k 8 b, ne_eqb k 9 c)

-- a type that a test tells is not another
not_single : {k n : ℕ} → k ≡ n → is_single n ≡ true → is_single k ≡ false → ⊥
not_single e h g = true≢false (sym h ∙ ap is_single (sym e) ∙ g)

not_ranged : {k n : ℕ} → k ≡ n → is_ranged n ≡ true → is_ranged k ≡ false → ⊥
not_ranged e h g = true≢false (sym h ∙ ap is_ranged (sym e) ∙ g)

-- ---- chunks behind a type

module _ (F : Format) (t : List ℕ) {n : ℕ} (ne : n ≡ named_size F) where
  pub ranged-cut : length t < n → 0 ≡ ranged_size F t
  unfolding ranged_size
  ranged-cut h = simp (lt-ltb (length t) (named_size F) (omega (arith, ne, h)))

  -- by the order of the chunks, in which none are
  module _ (h : n ≤ length t) {o : Bool} (oe : o ≡ not (ltb (last_of F t) (first_of F t))) where
    ranged-by : (none bad : Bool) → (none ≡ true → bad ≡ false) → pick (not bad) (named_size F) 0 ≡ pick none (named_size F) (pick bad 0 (named_size F))
    ranged-by true true g = absurd (true≢false (g refl))
    ranged-by true false g = refl
    ranged-by false true g = refl
    ranged-by false false g = refl

    ranged-is : pick o (named_size F) 0 ≡ ranged_size F t
    unfolding ranged_size
    ranged-is =
        rw (oe, le-ltb (length t) (named_size F) (omega (arith, ne, h)))
        (ranged-by (is_empty F t) (ltb (last_of F t) (first_of F t)) (none-order F t))

    pub ranged-order : not o ≡ true → 0 ≡ ranged_size F t
    ranged-order p = rw (not-true o p) at ranged-is

    pub ranged-good : not o ≡ false → n ≡ ranged_size F t
    ranged-good p = ne ∙ rw (not-false o p) at ranged-is

  pub ack-cut : length t < n + 8 → 0 ≡ ack_size F t
  unfolding ack_size
  ack-cut h = simp (lt-ltb (length t) (timed_size F) (omega (arith, ne, h)))

  module _ (h : n + 8 ≤ length t) {b : Bool} (be : b ≡ is_special F t) where
    pub ack-special : b ≡ true → 0 ≡ ack_size F t
    unfolding ack_size
    ack-special p = simp (le-ltb (length t) (timed_size F) (omega (arith, ne, h)), ← be, p)

    module _ (z : b ≡ false) {o : Bool} (oe : o ≡ not (ltb (last_of F t) (first_of F t))) where
      ack-by : (bad : Bool) → pick (not bad) (timed_size F) 0 ≡ pick bad 0 (timed_size F)
      ack-by true = refl
      ack-by false = refl

      ack-is : pick o (timed_size F) 0 ≡ ack_size F t
      unfolding ack_size
      ack-is =
          rw (oe, le-ltb (length t) (timed_size F) (omega (arith, ne, h)), ← be, z) (ack-by (ltb (last_of F t) (first_of F t)))

      pub ack-order : not o ≡ true → 0 ≡ ack_size F t
      ack-order p = rw (not-true o p) at ack-is

      pub ack-good : not o ≡ false → n + 8 ≡ ack_size F t
      ack-good p = ap (λ (x : ℕ). x + 8) ne ∙ rw (not-false o p) at ack-is

-- ---- the size of a plain message

-- HAVE, REQUEST or CANCEL, by its tests
ranged-step : (F : Format) (m : Message) (k next : ℕ) → plain_size F (Read m (cursor next)) ≡ named_size F → (cut none bad : Bool)
    → plain_size F (pick cut Refused (pick none (Read (Empty k) (cursor next)) (pick bad Refused (Read m (cursor next)))))
    ≡ pick cut 0 (pick none (named_size F) (pick bad 0 (named_size F)))
ranged-step F m k next e true none bad = refl
ranged-step F m k next e false true bad = refl
ranged-step F m k next e false false true = refl
ranged-step F m k next e false false false = e

-- ACK
ack-step : (F : Format) (f l d next : ℕ) (cut special bad : Bool)
    → plain_size F (pick cut Refused (pick (pick special true bad) Refused (Read (Ack f l d) (cursor next))))
    ≡ pick cut 0 (pick special 0 (pick bad 0 (timed_size F)))
ack-step F f l d next true special bad = refl
ack-step F f l d next false true bad = refl
ack-step F f l d next false false true = refl
ack-step F f l d next false false false = refl

module _ (F : Format) (at : ℕ) (t : List ℕ) where
  -- nothing is left
  pub size-end : length t < 1 → 0 ≡ plain_size F (step_of F at t)
  size-end h = ap (plain_size F) (sym (end_is F at t h))

  module _ (h : 1 ≤ length t) where
    pub size-single : is_single (get_or t 0 0) ≡ true → 1 ≡ plain_size F (step_of F at t)
    size-single e = by (single_types (get_or t 0 0) e)
      where
        by : (get_or t 0 0 ≡ 10) ⊎ (get_or t 0 0 ≡ 11) → 1 ≡ plain_size F (step_of F at t)
        by (inl k) = ap (plain_size F) (sym (choke-is F at t k h))
        by (inr k) = ap (plain_size F) (sym (unchoke-is F at t k h))

    -- HAVE, REQUEST or CANCEL
    ranged-plain : (k : ℕ) → plain_size F (Read (named k (first_of F t) (last_of F t)) (cursor (at + named_size F))) ≡ named_size F → plain_size F (ranged_at F k at t) ≡ ranged_size F t
    unfolding ranged_size ranged_at
    ranged-plain k e =
        ranged-step F (named k (first_of F t) (last_of F t)) k (at + named_size F) e (ltb (length t) (named_size F)) (is_empty F t) (ltb (last_of F t) (first_of F t))

    pub size-ranged : is_ranged (get_or t 0 0) ≡ true → ranged_size F t ≡ plain_size F (step_of F at t)
    unfolding typed
    size-ranged e = by (ranged_types (get_or t 0 0) e)
      where
        by : (get_or t 0 0 ≡ 3) ⊎ ((get_or t 0 0 ≡ 8) ⊎ (get_or t 0 0 ≡ 9)) → ranged_size F t ≡ plain_size F (step_of F at t)
        by (inl k) = sym (ap (plain_size F) (typed-is F at t 3 h k) ∙ ranged-plain 3 refl)
        by (inr (inl k)) = sym (ap (plain_size F) (typed-is F at t 8 h k) ∙ ranged-plain 8 refl)
        by (inr (inr k)) = sym (ap (plain_size F) (typed-is F at t 9 h k) ∙ ranged-plain 9 refl)

    -- ACK
    pub size-ack : get_or t 0 0 ≡ 2 → ack_size F t ≡ plain_size F (step_of F at t)
    unfolding ack_size typed ack_at
    size-ack k =
        sym (ap (plain_size F) (typed-is F at t 2 h k)
        ∙ ack-step F (first_of F t) (last_of F t) (be64 t (named_size F)) (at + timed_size F) (ltb (length t) (timed_size F)) (is_special F t) (ltb (last_of F t) (first_of F t)))

  -- any other type
  pub size-other : is_single (get_or t 0 0) ≡ false → is_ranged (get_or t 0 0) ≡ false → (get_or t 0 0 ≡ 2 → ⊥) → 0 ≡ plain_size F (step_of F at t)
  unfolding is_single is_ranged
  size-other single ranged ack = by (step_of F at t) (view F at t)
    where
      by : (st : Step) → View F at t st → 0 ≡ plain_size F st
      by _ (the_end l) = refl
      by _ refused = refl
      by _ (a_handshake k l o) = refl
      by _ (a_data k l o) = refl
      by _ (an_ack k l o) = absurd (ack k)
      by _ (a_have k l o) = absurd (not_ranged k refl ranged)
      by _ (an_integrity k l o) = refl
      by _ (a_request k l o) = absurd (not_ranged k refl ranged)
      by _ (a_cancel k l o) = absurd (not_ranged k refl ranged)
      by _ (a_choke k l) = absurd (not_single k refl single)
      by _ (an_unchoke k l) = absurd (not_single k refl single)
      by _ (an_empty k g e l o) = absurd (not_ranged e g ranged)

-- a plain message lies in what is left
size_fits : (F : Format) (at : ℕ) (t : List ℕ) → plain_size F (step_of F at t) ≤ length t
size_fits F at t = by (step_of F at t) (view F at t)
  where
    by : (st : Step) → View F at t st → plain_size F st ≤ length t
    by _ (the_end l) = omega arith
    by _ refused = omega arith
    by _ (a_handshake k l o) = omega arith
    by _ (a_data k l o) = omega arith
    by _ (an_ack k l o) = l
    by _ (a_have k l o) = l
    by _ (an_integrity k l o) = omega arith
    by _ (a_request k l o) = l
    by _ (a_cancel k l o) = l
    by _ (a_choke k l) = l
    by _ (an_unchoke k l) = l
    by _ (an_empty k g e l o) = l

-- one of a type up to 9 has a range
range-fits : (F : Format) (at : ℕ) (t : List ℕ) (st : Step) → View F at t st → (plain_size F st ≡ 0 → ⊥) → get_or t 0 0 ≤ 9 → named_size F ≤ length t
range-fits F at t _ (the_end l) h q = absurd (h refl)
range-fits F at t _ refused h q = absurd (h refl)
range-fits F at t _ (a_handshake k l o) h q = absurd (h refl)
range-fits F at t _ (a_data k l o) h q = absurd (h refl)
range-fits F at t _ (an_ack k l o) h q = omega arith
range-fits F at t _ (a_have k l o) h q = l
range-fits F at t _ (an_integrity k l o) h q = absurd (h refl)
range-fits F at t _ (a_request k l o) h q = l
range-fits F at t _ (a_cancel k l o) h q = l
range-fits F at t _ (a_choke k l) h q = absurd (omega arith)
range-fits F at t _ (an_unchoke k l) h q = absurd (omega arith)
range-fits F at t _ (an_empty k g e l o) h q = l

-- one over no chunk
empty_message : (F : Format) (at : ℕ) (t : List ℕ) (k : ℕ) → is_ranged k ≡ true → get_or t 0 0 ≡ k → is_empty F t ≡ true
    → Read (Empty k) (cursor (at + named_size F)) ≡ Read (plain_message F t) (cursor (at + named_size F))
unfolding plain_message
empty_message F at t k g e o = by (ranged_types k g)
  where
    by : (k ≡ 3) ⊎ ((k ≡ 8) ⊎ (k ≡ 9)) → Read (Empty k) (cursor (at + named_size F)) ≡ Read (plain_message F t) (cursor (at + named_size F))
    by (inl q) = rw (e, q, o)
    by (inr (inl q)) = rw (e, q, o)
    by (inr (inr q)) = rw (e, q, o)

-- it is the one that its bytes say
plain-message : (F : Format) (at : ℕ) (t : List ℕ) (st : Step) → View F at t st → (plain_size F st ≡ 0 → ⊥) → st ≡ Read (plain_message F t) (cursor (at + plain_size F st))
unfolding plain_message
plain-message F at t _ (the_end l) h = absurd (h refl)
plain-message F at t _ refused h = absurd (h refl)
plain-message F at t _ (a_handshake k l o) h = absurd (h refl)
plain-message F at t _ (a_data k l o) h = absurd (h refl)
plain-message F at t _ (an_ack k l o) h = rw (k, not_none F t o.0)
plain-message F at t _ (a_have k l o) h = rw (k, o.0)
plain-message F at t _ (an_integrity k l o) h = absurd (h refl)
plain-message F at t _ (a_request k l o) h = rw (k, o.0)
plain-message F at t _ (a_cancel k l o) h = rw (k, o.0)
plain-message F at t _ (a_choke k l) h = rw k
plain-message F at t _ (an_unchoke k l) h = rw k
plain-message F at t _ (an_empty k g e l o) h = empty_message F at t k g e o

-- ---- INTEGRITY

module _ (F : Format) (at : ℕ) (t : List ℕ) where
  -- another type, or fewer bytes
  pub node-other : (get_or t 0 0 ≡ 4 → integrity_size F ≤ length t → ⊥) → false ≡ is_node (step_of F at t)
  node-other h = by (step_of F at t) (view F at t)
    where
      by : (st : Step) → View F at t st → false ≡ is_node st
      by _ (the_end l) = refl
      by _ refused = refl
      by _ (a_handshake k l o) = refl
      by _ (a_data k l o) = refl
      by _ (an_ack k l o) = refl
      by _ (a_have k l o) = refl
      by _ (an_integrity k l o) = absurd (h k l)
      by _ (a_request k l o) = refl
      by _ (a_cancel k l o) = refl
      by _ (a_choke k l) = refl
      by _ (an_unchoke k l) = refl
      by _ (an_empty k g e l o) = refl

  -- its chunks decide
  pub node_by : get_or t 0 0 ≡ 4 → integrity_size F ≤ length t → is_node (step_of F at t) ≡ names_node F t
  node_by k l = ap is_node (integrity-is F at t k l) ∙ by (names_node F t)
    where
      by : (b : Bool) → is_node (refusing (not b) (Read (Integrity (first_of F t) (last_of F t) (at + named_size F)) (cursor (at + integrity_size F)))) ≡ b
      by true = refl
      by false = refl

-- an INTEGRITY message has its size
node-fits : (F : Format) (at : ℕ) (t : List ℕ) → is_node (step_of F at t) ≡ true → integrity_size F ≤ length t
node-fits F at t = by (step_of F at t) (view F at t)
  where
    by : (st : Step) → View F at t st → is_node st ≡ true → integrity_size F ≤ length t
    by _ (the_end l) e = absurd (true≢false (sym e))
    by _ refused e = absurd (true≢false (sym e))
    by _ (a_handshake k l o) e = absurd (true≢false (sym e))
    by _ (a_data k l o) e = absurd (true≢false (sym e))
    by _ (an_ack k l o) e = absurd (true≢false (sym e))
    by _ (a_have k l o) e = absurd (true≢false (sym e))
    by _ (an_integrity k l o) e = l
    by _ (a_request k l o) e = absurd (true≢false (sym e))
    by _ (a_cancel k l o) e = absurd (true≢false (sym e))
    by _ (a_choke k l) e = absurd (true≢false (sym e))
    by _ (an_unchoke k l) e = absurd (true≢false (sym e))
    by _ (an_empty k g d l o) e = absurd (true≢false (sym e))

-- ---- at a place of a datagram, with what is left of it as the code has it

module _ (F : Format) (s : List ℕ) (at : ℕ) where
  pub here_end : length s ≤ at → (0 ≡ plain_size F (step_at F s at)) × (false ≡ is_node (step_at F s at))
  here_end h = let l : length (drop at s) < 1 = omega (arith, length-drop at s) in (size-end F at (drop at s) l, node-other F at (drop at s) (λ k z. omega (arith, l, z)))

  module _ (h : at < length s) where
    left : 1 ≤ length (drop at s)
    left = omega (arith, length-drop at s)

    pub here-single : {b : Bool} → b ≡ is_single (get_or (take (length s - at) (drop at s)) 0 0) → b ≡ true → 1 ≡ plain_size F (step_at F s at)
    here-single e p = size-single F at (drop at s) left (sym (rw part at e) ∙ p)

    pub here-ranged : {b : Bool} → b ≡ is_ranged (get_or (take (length s - at) (drop at s)) 0 0) → b ≡ true
        → {n : ℕ} → n ≡ ranged_size F (take (length s - at) (drop at s)) → n ≡ plain_size F (step_at F s at)
    here-ranged e p g = rw part at g ∙ size-ranged F at (drop at s) left (sym (rw part at e) ∙ p)

    pub here-ack : get_or (take (length s - at) (drop at s)) 0 0 ≡ 2 → {n : ℕ} → n ≡ ack_size F (take (length s - at) (drop at s)) → n ≡ plain_size F (step_at F s at)
    here-ack k g = rw part at g ∙ size-ack F at (drop at s) left (rw part at k)

  pub here-other : {a b : Bool} → a ≡ is_single (get_or (take (length s - at) (drop at s)) 0 0) → a ≡ false
      → b ≡ is_ranged (get_or (take (length s - at) (drop at s)) 0 0) → b ≡ false
      → (get_or (take (length s - at) (drop at s)) 0 0 ≡ 2 → ⊥) → 0 ≡ plain_size F (step_at F s at)
  here-other e p g q k = size-other F at (drop at s) (sym (rw part at e) ∙ p) (sym (rw part at g) ∙ q) (rw part at k)

  -- another type than INTEGRITY's, or too few bytes
  pub here-no-node : (get_or (take (length s - at) (drop at s)) 0 0 ≡ 4 → integrity_size F ≤ length (take (length s - at) (drop at s)) → ⊥) → false ≡ is_node (step_at F s at)
  here-no-node k = node-other F at (drop at s) (rw part at k)

  -- its chunks decide
  pub here-node : get_or (take (length s - at) (drop at s)) 0 0 ≡ 4 → {n : ℕ} → n ≡ named_size F → n + 32 ≤ length (take (length s - at) (drop at s))
      → {b : Bool} → b ≡ names_node F (take (length s - at) (drop at s)) → b ≡ is_node (step_at F s at)
  here-node k ne l e = rw part at e ∙ sym (node_by F at (drop at s) (rw part at k) (omega (arith, ne, ap length (part at s), l)))

  -- the message lies in the datagram
  pub size-inside : {n : ℕ} → n ≡ plain_size F (step_at F s at) → (n ≡ 0 → ⊥) → at + n ≤ length s
  size-inside e h = omega (arith, e, h, size_fits F at (drop at s), length-drop at s)

  pub size-inside-said : {n : ℕ} → Some n ≡ some_size (plain_size F (step_at F s at)) → at + n ≤ length s
  size-inside-said e = let h = size-said (plain_size F (step_at F s at)) e in size-inside h.0 h.1

  pub node-inside : {b : Bool} → b ≡ is_node (step_at F s at) → b ≡ true → at + integrity_size F ≤ length s
  node-inside e h = omega (arith, node-fits F at (drop at s) (sym e ∙ h), length-drop at s)

  pub plain-read : {n : ℕ} → n ≡ plain_size F (step_at F s at) → (n ≡ 0 → ⊥) → step_at F s at ≡ Read (plain_message F (drop at s)) (cursor (at + n))
  plain-read e h = rw e (plain-message F at (drop at s) (step_at F s at) (view F at (drop at s)) (λ q. h (e ∙ q)))

  pub size-range : {n : ℕ} → n ≡ plain_size F (step_at F s at) → (n ≡ 0 → ⊥) → get_or (drop at s) 0 0 ≤ 9 → named_size F ≤ length (drop at s)
  size-range e h = range-fits F at (drop at s) (step_at F s at) (view F at (drop at s)) (λ q. h (e ∙ q))
