-- Laws of reading a message, test by test as the code has them. Assumes nothing.
use Prim.Native.Nat.{ℕ, ◌+◌, ◌-◌, ◌<◌, ◌≤◌}
use native.Mathlib.Omega.{arith}
use mathlib.Core.Path.{◌≡◌, refl, ◌∙◌}
use mathlib.Core.List.{List}
use mathlib.Core.Bool.{Bool, true, false}
use lib.ListN.{length, get_or, take, drop, length-drop, drop_of_length-le}
use borrow.Author.Tests.{lt-ltb, le-ltb, eq-eqb, ne_eqb, eqb-true, eqb-false}
use lib.Dec.{eqb}
use Rattle.wire.specs.Bytes.{be32, be64}
use Rattle.wire.specs.Place.{integrity_size, is_empty, is_special, named_size, timed_size}
use Rattle.wire.specs.Options.{options_size, is_fixed, root_place}
use Rattle.wire.specs.Read.{cursor, kind_of, handshake_at, data_at, integrity_at, ack_at, ranged_at, typed, step_of, names_node, named}
use Rattle.wire.specs.Steps.{range_of}
use Rattle.wire.specs.declared.range.Range.{Range}
use Rattle.wire.specs.declared.message.Options.{Options}
use Rattle.wire.specs.declared.message.Options.TheVariants.{Fixed, EndOnly, Other}
use Rattle.wire.specs.declared.message.Message.{Message}
use Rattle.wire.specs.declared.message.Message.TheVariants.{Handshake, Data, Ack, Have, Integrity, Request, Cancel, Choke, Unchoke, Empty}
use Rattle.wire.specs.declared.message.Step.{Step}
use Rattle.wire.specs.declared.message.Step.TheVariants.{Read, End, Refused}
use Rattle.wire.proofs.BytesLaws.{part}
use Rattle.format.specs.declared.Format.{Format}
use Rattle.wire.proofs.PlaceLaws.{first_is, last_is}

module _ (F : Format) (at : ℕ) (t : List ℕ) where
  -- the options' kind
  module _ (n : ℕ) (e : n ≡ options_size t) where
    -- End alone
    pub kind-end : n ≡ 1 → EndOnly ≡ kind_of F at t
    unfolding kind_of
    kind-end h = simp (← e, eq-eqb n 1 h)

    -- the fixed options
    pub kind-fixed : (n ≡ 1 → ⊥) → {b : Bool} → b ≡ is_fixed F t → b ≡ true → Fixed (at + root_place) ≡ kind_of F at t
    unfolding kind_of
    kind-fixed h p q = simp (← e, ne_eqb n 1 h, ← p, q)

    -- others
    pub kind-other : (n ≡ 1 → ⊥) → {b : Bool} → b ≡ is_fixed F t → b ≡ false → Other ≡ kind_of F at t
    unfolding kind_of
    kind-other h p q = simp (← e, ne_eqb n 1 h, ← p, q)

  -- a message cut short
  pub handshake-cut : length t < 5 → Refused ≡ handshake_at F at t
  unfolding handshake_at
  handshake-cut l = simp (lt-ltb _ _ l)

  -- of the options, which the code has as a part of a slice
  module _ (h : 5 ≤ length t) (n : ℕ) (e : n ≡ options_size (take (length t - 5) (drop 5 t))) where
    -- refused options
    pub handshake-bad : n ≡ 0 → Refused ≡ handshake_at F at t
    unfolding handshake_at
    handshake-bad p = let q = rw part at e in simp (le-ltb _ _ h, ← q, eq-eqb n 0 p)

    -- sound options
    pub handshake-good : (n ≡ 0 → ⊥) → {s : ℕ} → s ≡ be32 t 1 → {o : Options} → o ≡ kind_of F (at + 5) (take (length t - 5) (drop 5 t))
        → Read (Handshake s o) (cursor (at + 5 + n)) ≡ handshake_at F at t
    unfolding handshake_at
    handshake-good p se oe = let q = rw part at e in let r = rw part at oe in simp (le-ltb _ _ h, ← q, ne_eqb n 0 p, ← se, ← r)

  -- n is the size of a type and chunks
  module _ {n : ℕ} (ne : n ≡ named_size F) where
    pub data-cut : length t < n + 8 → Refused ≡ data_at F at t
    unfolding data_at
    data-cut l = simp (lt-ltb (length t) (timed_size F) (omega (arith, ne, l)))

    pub ack-cut : length t < n + 8 → Refused ≡ ack_at F at t
    unfolding ack_at
    ack-cut l = simp (lt-ltb (length t) (timed_size F) (omega (arith, ne, l)))

    pub integrity-cut : length t < n + 32 → Refused ≡ integrity_at F at t
    unfolding integrity_at
    integrity-cut l = simp (lt-ltb (length t) (integrity_size F) (omega (arith, ne, l)))

    pub ranged-cut : (k : ℕ) → length t < n → Refused ≡ ranged_at F k at t
    unfolding ranged_at
    ranged-cut k l = simp (lt-ltb (length t) (named_size F) (omega (arith, ne, l)))

    -- DATA and ACK
    module _ (h : n + 8 ≤ length t) {b : Bool} (be : b ≡ is_special F t) where
      long : timed_size F ≤ length t
      long = omega (arith, ne, h)

      -- of none or all chunks
      pub data-special : b ≡ true → Refused ≡ data_at F at t
      unfolding data_at
      data-special p = simp (le-ltb (length t) (timed_size F) long, ← be, p)

      pub ack-special : b ≡ true → Refused ≡ ack_at F at t
      unfolding ack_at
      ack-special p = simp (le-ltb (length t) (timed_size F) long, ← be, p)

      module _ (z : b ≡ false) (r : Range) (e : r ≡ range_of F t) where
        -- DATA of more than one chunk
        pub data-range : (r.first ≡ r.last → ⊥) → Refused ≡ data_at F at t
        unfolding data_at
        data-range p =
            let f = first_is F t e in let l = last_is F t e in
            simp (le-ltb (length t) (timed_size F) long, ← be, z, ← f, ← l, ne_eqb r.first r.last p)

        -- DATA
        pub data-good : r.first ≡ r.last → {x : ℕ} → x ≡ be64 t n
            → Read (Data r.first r.last x (at + (n + 8)) (length t - (n + 8))) (cursor (at + length t)) ≡ data_at F at t
        unfolding data_at
        data-good p xe =
            let f = first_is F t e in let l = last_is F t e in let y = rw ne at xe in
            rw ne (simp (le-ltb (length t) (timed_size F) long, ← be, z, ← f, ← l, eq-eqb r.first r.last p, ← y))

        -- ACK, its last chunk before its first
        pub ack-order : r.last < r.first → Refused ≡ ack_at F at t
        unfolding ack_at
        ack-order o =
            let f = first_is F t e in let l = last_is F t e in
            simp (le-ltb (length t) (timed_size F) long, ← be, z, ← f, ← l, lt-ltb r.last r.first o)

        -- ACK
        pub ack-good : r.first ≤ r.last → {x : ℕ} → x ≡ be64 t n → Read (Ack r.first r.last x) (cursor (at + (n + 8))) ≡ ack_at F at t
        unfolding ack_at
        ack-good o xe =
            let f = first_is F t e in let l = last_is F t e in let y = rw ne at xe in
            rw ne (simp (le-ltb (length t) (timed_size F) long, ← be, z, ← f, ← l, le-ltb r.last r.first o, ← y))

    -- INTEGRITY
    module _ (h : n + 32 ≤ length t) {b : Bool} (be : b ≡ names_node F t) where
      -- of chunks that are no node's
      pub integrity-no-node : b ≡ false → Refused ≡ integrity_at F at t
      unfolding integrity_at
      integrity-no-node p = simp (le-ltb (length t) (integrity_size F) (omega (arith, ne, h)), ← be, p)

      pub integrity-good : b ≡ true → (r : Range) → r ≡ range_of F t
          → Read (Integrity r.first r.last (at + n)) (cursor (at + (n + 32))) ≡ integrity_at F at t
      unfolding integrity_at
      integrity-good p r e =
          let f = first_is F t e in let l = last_is F t e in
          rw ne (simp (le-ltb (length t) (integrity_size F) (omega (arith, ne, h)), ← be, p, ← f, ← l))

    -- HAVE, REQUEST or CANCEL
    module _ (k : ℕ) (h : n ≤ length t) {b : Bool} (be : b ≡ is_empty F t) where
      -- over no chunk
      pub ranged-empty : b ≡ true → Read (Empty k) (cursor (at + n)) ≡ ranged_at F k at t
      unfolding ranged_at
      ranged-empty p = rw ne (simp (le-ltb (length t) (named_size F) (omega (arith, ne, h)), ← be, p))

      module _ (z : b ≡ false) (r : Range) (e : r ≡ range_of F t) where
        -- its last chunk before its first
        pub ranged-order : r.last < r.first → Refused ≡ ranged_at F k at t
        unfolding ranged_at
        ranged-order o =
            let f = first_is F t e in let l = last_is F t e in
            simp (le-ltb (length t) (named_size F) (omega (arith, ne, h)), ← be, z, ← f, ← l, lt-ltb r.last r.first o)

        pub ranged-good : r.first ≤ r.last → {m : Message} → m ≡ named k r.first r.last → Read m (cursor (at + n)) ≡ ranged_at F k at t
        unfolding ranged_at
        ranged-good o me =
            let f = first_is F t e in let l = last_is F t e in
            rw (ne, me) (simp (le-ltb (length t) (named_size F) (omega (arith, ne, h)), ← be, z, ← f, ← l, le-ltb r.last r.first o))

-- HAVE, REQUEST or CANCEL, by its type
module _ (k f l : ℕ) where
  pub named-have : k ≡ 3 → Have f l ≡ named k f l
  named-have e = rw e

  pub named-request : k ≡ 8 → Request f l ≡ named k f l
  named-request e = rw e

  pub named-cancel : (k ≡ 3 → ⊥) → (k ≡ 8 → ⊥) → Cancel f l ≡ named k f l
  named-cancel p q = simp (ne_eqb k 3 p, ne_eqb k 8 q)

-- ---- the table's rows

module _ (F : Format) (k at : ℕ) (t : List ℕ) where
  pub row-handshake : k ≡ 0 → handshake_at F at t ≡ typed F k at t
  unfolding typed
  row-handshake e = rw e

  pub row-data : k ≡ 1 → data_at F at t ≡ typed F k at t
  unfolding typed
  row-data e = rw e

  pub row-ack : k ≡ 2 → ack_at F at t ≡ typed F k at t
  unfolding typed
  row-ack e = rw e

  -- HAVE, REQUEST and CANCEL
  pub row-ranged : ((k ≡ 3 → ⊥) → (8 ≤ k) × (k ≤ 9)) → ranged_at F k at t ≡ typed F k at t
  unfolding typed
  row-ranged h = by (eqb k 3) (eqb k 8) (eqb k 9) refl refl refl
    where
      by : (a b c : Bool) → eqb k 3 ≡ a → eqb k 8 ≡ b → eqb k 9 ≡ c → ranged_at F k at t ≡ typed F k at t
      by true b c p q r = rw (eqb-true k 3 p)
      by false true c p q r = rw (eqb-true k 8 q)
      by false false true p q r = rw (eqb-true k 9 r)
      by false false false p q r = let z = h (eqb-false k 3 p) in absurd (omega (arith, z.0, z.1, eqb-false k 8 q, eqb-false k 9 r))

  pub row-integrity : k ≡ 4 → integrity_at F at t ≡ typed F k at t
  unfolding typed
  row-integrity e = rw e

  pub row-choke : k ≡ 10 → Read Choke (cursor (at + 1)) ≡ typed F k at t
  unfolding typed
  row-choke e = rw e

  pub row-unchoke : k ≡ 11 → Read Unchoke (cursor (at + 1)) ≡ typed F k at t
  unfolding typed
  row-unchoke e = rw e

  -- a refused type
  pub no_row : (k ≡ 0 → ⊥) → (k ≡ 1 → ⊥) → (k ≡ 2 → ⊥) → (k ≡ 3 → ⊥) → (k ≡ 4 → ⊥) → (k ≡ 8 → ⊥) → (k ≡ 9 → ⊥) → (k ≡ 10 → ⊥) → (k ≡ 11 → ⊥) → Refused ≡ typed F k at t
  unfolding typed
  no_row a b c d e f g h i =
      simp (ne_eqb k 0 a, ne_eqb k 1 b, ne_eqb k 2 c, ne_eqb k 3 d, ne_eqb k 4 e, ne_eqb k 8 f, ne_eqb k 9 g, ne_eqb k 10 h, ne_eqb k 11 i)

-- ---- a place of a datagram, of which the code has the bytes left as a part of a slice

module _ (F : Format) (at : ℕ) (s : List ℕ) where
  -- the end
  pub step_end : length s ≤ at → End ≡ step_of F at (drop at s)
  unfolding step_of
  step_end l = simp (drop_of_length-le s l)

  -- a message of some type
  pub step_typed : at < length s → {m : Step} → m ≡ typed F (get_or (take (length s - at) (drop at s)) 0 0) at (take (length s - at) (drop at s)) → m ≡ step_of F at (drop at s)
  unfolding step_of
  step_typed l e = let q : 1 ≤ length (drop at s) = omega (arith, length-drop at s) in (rw part at e) ∙ simp (le-ltb _ _ q)
