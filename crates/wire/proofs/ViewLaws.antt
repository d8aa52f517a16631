-- What stands at the front of the bytes that are left, row by row of the table: what a step that was read says of the
-- bytes, and which bytes give which step. Assumes nothing.
use Prim.Native.Nat.{ℕ, ◌+◌, ◌-◌, ◌<◌, ◌≤◌}
use native.Mathlib.Omega.{arith}
use mathlib.Core.Path.{◌≡◌, refl, ◌∙◌}
use mathlib.Core.List.{List}
use mathlib.Core.Bool.{Bool, true, false, not, true≢false}
use lib.ListN.{length, get_or, drop}
use lib.Dec.{ltb, eqb}
use borrow.Author.Tests.{lt-ltb, le-ltb, ne_eqb, ltb-true, ltb-false, eqb-true, eqb-false, not-false}
use Rattle.base.specs.Pick.{pick}
use Rattle.wire.specs.Bytes.{be32, be64}
use Rattle.wire.specs.Place.{first_of, last_of, integrity_size, is_empty, is_special, named_size, timed_size}
use Rattle.wire.specs.Options.{options_size}
use Rattle.wire.specs.Read.{cursor, kind_of, handshake_at, data_at, ack_at, integrity_at, ranged_at, typed, step_of, named, names_node, is_ranged}
use Rattle.wire.specs.declared.message.Message.TheVariants.{Handshake, Data, Ack, Have, Integrity, Request, Cancel, Choke, Unchoke, Empty}
use Rattle.wire.specs.declared.message.Step.{Step}
use Rattle.wire.specs.declared.message.Step.TheVariants.{Read, End, Refused}
use Rattle.format.specs.declared.Format.{Format}
use mathlib.Core.Logic.{◌⊎◌, inl, inr}

-- ---- HAVE, REQUEST and CANCEL by their types

pub ranged_types : (k : ℕ) → is_ranged k ≡ true → (k ≡ 3) ⊎ ((k ≡ 8) ⊎ (k ≡ 9))
unfolding is_ranged
ranged_types k = by (eqb k 3) (eqb k 8) refl refl
  where
    by : (a b : Bool) → eqb k 3 ≡ a → eqb k 8 ≡ b → pick a true (pick b true (eqb k 9)) ≡ true → (k ≡ 3) ⊎ ((k ≡ 8) ⊎ (k ≡ 9))
    by true b d e h = inl (eqb-true k 3 d)
    by false true d e h = inr (inl (eqb-true k 8 e))
    by false false d e h = inr (inr (eqb-true k 9 h))

-- ---- which bytes give which step

-- A step that a test refuses.
abbrev pub refusing : Bool → Step → Step
refusing bad st = pick bad Refused st

module _ (F : Format) (at : ℕ) (t : List ℕ) where
  pub typed-is : (k : ℕ) → 1 ≤ length t → get_or t 0 0 ≡ k → step_of F at t ≡ typed F k at t
  unfolding step_of
  typed-is k h e = rw (le-ltb (length t) 1 h, e)

  pub end_is : length t < 1 → step_of F at t ≡ End
  unfolding step_of
  end_is h = rw (lt-ltb (length t) 1 h)

  pub handshake-is : get_or t 0 0 ≡ 0 → 5 ≤ length t → (options_size (drop 5 t) ≡ 0 → ⊥)
      → step_of F at t ≡ Read (Handshake (be32 t 1) (kind_of F (at + 5) (drop 5 t))) (cursor (at + 5 + options_size (drop 5 t)))
  unfolding typed handshake_at
  handshake-is e l o = typed-is 0 (omega arith) e ∙ rw (le-ltb (length t) 5 l, ne_eqb (options_size (drop 5 t)) 0 o)

  pub data_is : get_or t 0 0 ≡ 1 → timed_size F ≤ length t
      → step_of F at t
      ≡ refusing (pick (is_special F t) true (not (eqb (first_of F t) (last_of F t))))
      (Read (Data (first_of F t) (last_of F t) (be64 t (named_size F)) (at + timed_size F) (length t - timed_size F)) (cursor (at + length t)))
  unfolding typed data_at
  data_is e l = typed-is 1 (omega arith) e ∙ rw (le-ltb (length t) (timed_size F) l)

  pub ack-is : get_or t 0 0 ≡ 2 → timed_size F ≤ length t
      → step_of F at t
      ≡ refusing (pick (is_special F t) true (ltb (last_of F t) (first_of F t)))
      (Read (Ack (first_of F t) (last_of F t) (be64 t (named_size F))) (cursor (at + timed_size F)))
  unfolding typed ack_at
  ack-is e l = typed-is 2 (omega arith) e ∙ rw (le-ltb (length t) (timed_size F) l)

  pub integrity-is : get_or t 0 0 ≡ 4 → integrity_size F ≤ length t
      → step_of F at t
      ≡ refusing (not (names_node F t)) (Read (Integrity (first_of F t) (last_of F t) (at + named_size F)) (cursor (at + integrity_size F)))
  unfolding typed integrity_at
  integrity-is e l = typed-is 4 (omega arith) e ∙ rw (le-ltb (length t) (integrity_size F) l)

  -- HAVE, REQUEST and CANCEL
  ranged-is : (k : ℕ) → named_size F ≤ length t → is_empty F t ≡ false
      → ranged_at F k at t ≡ refusing (ltb (last_of F t) (first_of F t)) (Read (named k (first_of F t) (last_of F t)) (cursor (at + named_size F)))
  unfolding ranged_at
  ranged-is k l o = rw (le-ltb (length t) (named_size F) l, o)

  pub have-is : get_or t 0 0 ≡ 3 → named_size F ≤ length t → is_empty F t ≡ false
      → step_of F at t ≡ refusing (ltb (last_of F t) (first_of F t)) (Read (Have (first_of F t) (last_of F t)) (cursor (at + named_size F)))
  unfolding typed
  have-is e l o = typed-is 3 (omega arith) e ∙ ranged-is 3 l o

  pub request-is : get_or t 0 0 ≡ 8 → named_size F ≤ length t → is_empty F t ≡ false
      → step_of F at t ≡ refusing (ltb (last_of F t) (first_of F t)) (Read (Request (first_of F t) (last_of F t)) (cursor (at + named_size F)))
  unfolding typed
  request-is e l o = typed-is 8 (omega arith) e ∙ ranged-is 8 l o

  pub cancel-is : get_or t 0 0 ≡ 9 → named_size F ≤ length t → is_empty F t ≡ false
      → step_of F at t ≡ refusing (ltb (last_of F t) (first_of F t)) (Read (Cancel (first_of F t) (last_of F t)) (cursor (at + named_size F)))
  unfolding typed
  cancel-is e l o = typed-is 9 (omega arith) e ∙ ranged-is 9 l o

  -- one of them over no chunk
  none_is : (k : ℕ) → named_size F ≤ length t → is_empty F t ≡ true → ranged_at F k at t ≡ Read (Empty k) (cursor (at + named_size F))
  unfolding ranged_at
  none_is k l o = rw (le-ltb (length t) (named_size F) l, o)

  pub empty-is : (k : ℕ) → is_ranged k ≡ true → get_or t 0 0 ≡ k → named_size F ≤ length t → is_empty F t ≡ true
      → step_of F at t ≡ Read (Empty k) (cursor (at + named_size F))
  unfolding typed
  empty-is k h e l o = by (ranged_types k h)
    where
      by : (k ≡ 3) ⊎ ((k ≡ 8) ⊎ (k ≡ 9)) → step_of F at t ≡ Read (Empty k) (cursor (at + named_size F))
      by (inl q) = rw q (typed-is 3 (omega arith) (e ∙ q) ∙ none_is 3 l o)
      by (inr (inl q)) = rw q (typed-is 8 (omega arith) (e ∙ q) ∙ none_is 8 l o)
      by (inr (inr q)) = rw q (typed-is 9 (omega arith) (e ∙ q) ∙ none_is 9 l o)

  pub choke-is : get_or t 0 0 ≡ 10 → 1 ≤ length t → step_of F at t ≡ Read Choke (cursor (at + 1))
  unfolding typed
  choke-is e l = typed-is 10 l e

  pub unchoke-is : get_or t 0 0 ≡ 11 → 1 ≤ length t → step_of F at t ≡ Read Unchoke (cursor (at + 1))
  unfolding typed
  unchoke-is e l = typed-is 11 l e

-- ---- what a step says of the bytes t
pub data View (F : Format) (at : ℕ) (t : List ℕ) : Step → Type 0 where
  the_end : length t < 1 → View F at t End
  refused : View F at t Refused
  a_handshake : get_or t 0 0 ≡ 0 → 5 ≤ length t → (options_size (drop 5 t) ≡ 0 → ⊥)
      → View F at t (Read (Handshake (be32 t 1) (kind_of F (at + 5) (drop 5 t))) (cursor (at + 5 + options_size (drop 5 t))))
  a_data : get_or t 0 0 ≡ 1 → timed_size F ≤ length t → (is_special F t ≡ false) × (first_of F t ≡ last_of F t)
      → View F at t (Read (Data (first_of F t) (last_of F t) (be64 t (named_size F)) (at + timed_size F) (length t - timed_size F)) (cursor (at + length t)))
  an_ack : get_or t 0 0 ≡ 2 → timed_size F ≤ length t → (is_special F t ≡ false) × (first_of F t ≤ last_of F t)
      → View F at t (Read (Ack (first_of F t) (last_of F t) (be64 t (named_size F))) (cursor (at + timed_size F)))
  a_have : get_or t 0 0 ≡ 3 → named_size F ≤ length t → (is_empty F t ≡ false) × (first_of F t ≤ last_of F t)
      → View F at t (Read (Have (first_of F t) (last_of F t)) (cursor (at + named_size F)))
  an_integrity : get_or t 0 0 ≡ 4 → integrity_size F ≤ length t → names_node F t ≡ true
      → View F at t (Read (Integrity (first_of F t) (last_of F t) (at + named_size F)) (cursor (at + integrity_size F)))
  a_request : get_or t 0 0 ≡ 8 → named_size F ≤ length t → (is_empty F t ≡ false) × (first_of F t ≤ last_of F t)
      → View F at t (Read (Request (first_of F t) (last_of F t)) (cursor (at + named_size F)))
  a_cancel : get_or t 0 0 ≡ 9 → named_size F ≤ length t → (is_empty F t ≡ false) × (first_of F t ≤ last_of F t)
      → View F at t (Read (Cancel (first_of F t) (last_of F t)) (cursor (at + named_size F)))
  a_choke : get_or t 0 0 ≡ 10 → 1 ≤ length t → View F at t (Read Choke (cursor (at + 1)))
  an_unchoke : get_or t 0 0 ≡ 11 → 1 ≤ length t → View F at t (Read Unchoke (cursor (at + 1)))
  an_empty : (k : ℕ) → is_ranged k ≡ true → get_or t 0 0 ≡ k → named_size F ≤ length t → is_empty F t ≡ true → View F at t (Read (Empty k) (cursor (at + named_size F)))

module _ (F : Format) (at : ℕ) (t : List ℕ) where
  -- a row of the table, and a test that refuses
  choose : (k n : ℕ) (a b : Step) → (k ≡ n → View F at t a) → View F at t b → View F at t (pick (eqb k n) a b)
  choose k n a b f g = by (eqb k n) refl
    where
      by : (x : Bool) → eqb k n ≡ x → View F at t (pick x a b)
      by true e = f (eqb-true k n e)
      by false e = g

  refusing-view : (b : Bool) (a : Step) → (b ≡ false → View F at t a) → View F at t (refusing b a)
  refusing-view true a f = refused
  refusing-view false a f = f refl

  -- a test that tells none or all from other chunks
  telling : (x : Bool) (a b : Step) → (x ≡ true → View F at t a) → (x ≡ false → View F at t b) → View F at t (pick x a b)
  telling true a b f g = f refl
  telling false a b f g = g refl

  both-passed : (x y : Bool) → pick x true y ≡ false → (x ≡ false) × (y ≡ false)
  both-passed true y e = absurd (true≢false e)
  both-passed false y e = (refl, e)

  ranged-view : (k : ℕ) → is_ranged k ≡ true → get_or t 0 0 ≡ k
      → (named_size F ≤ length t → (is_empty F t ≡ false) × (first_of F t ≤ last_of F t) → View F at t (Read (named k (first_of F t) (last_of F t)) (cursor (at + named_size F))))
      → View F at t (ranged_at F k at t)
  unfolding ranged_at
  ranged-view k h e f =
      refusing-view _ _ (λ p. telling (is_empty F t) _ _ (λ q. an_empty k h e (ltb-false (length t) (named_size F) p) q)
      (λ q. refusing-view _ _ (λ r. f (ltb-false (length t) (named_size F) p) (q, ltb-false (last_of F t) (first_of F t) r))))

  typed-view : (k : ℕ) → get_or t 0 0 ≡ k → 1 ≤ length t → View F at t (typed F k at t)
  unfolding typed handshake_at data_at ack_at integrity_at is_ranged
  typed-view k c h =
      choose k 0 _ _ (λ e. refusing-view _ _ (λ p. refusing-view _ _ (λ q. a_handshake (c ∙ e) (ltb-false (length t) 5 p) (eqb-false (options_size (drop 5 t)) 0 q))))
      (choose k 1 _ _ (λ e. refusing-view _ _ (λ p. refusing-view _ _ (λ q.
      let z = both-passed (is_special F t) _ q in a_data (c ∙ e) (ltb-false (length t) (timed_size F) p) (z.0, eqb-true (first_of F t) (last_of F t) (not-false _ z.1)))))
      (choose k 2 _ _ (λ e. refusing-view _ _ (λ p. refusing-view _ _ (λ q.
      let z = both-passed (is_special F t) _ q in an_ack (c ∙ e) (ltb-false (length t) (timed_size F) p) (z.0, ltb-false (last_of F t) (first_of F t) z.1))))
      (choose k 3 _ _ (λ e. ranged-view 3 refl (c ∙ e) (λ l o. a_have (c ∙ e) l o))
      (choose k 4 _ _ (λ e. refusing-view _ _ (λ p. refusing-view _ _ (λ q. an_integrity (c ∙ e) (ltb-false (length t) (integrity_size F) p) (not-false _ q))))
      (choose k 8 _ _ (λ e. ranged-view 8 refl (c ∙ e) (λ l o. a_request (c ∙ e) l o))
      (choose k 9 _ _ (λ e. ranged-view 9 refl (c ∙ e) (λ l o. a_cancel (c ∙ e) l o))
      (choose k 10 _ _ (λ e. a_choke (c ∙ e) h)
      (choose k 11 _ _ (λ e. an_unchoke (c ∙ e) h)
      refused))))))))

  -- every step has one
  pub view : View F at t (step_of F at t)
  unfolding step_of
  view = by (ltb (length t) 1) refl
    where
      by : (b : Bool) → ltb (length t) 1 ≡ b → View F at t (pick b End (typed F (get_or t 0 0) at t))
      by true e = the_end (ltb-true (length t) 1 e)
      by false e = typed-view (get_or t 0 0) refl (ltb-false (length t) 1 e)
