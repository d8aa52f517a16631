-- Laws of the layout checks of one message, test by test as the code has them. Assumes nothing.
use Prim.Native.Nat.{ℕ, zero, suc, ◌+◌, ◌-◌, ◌*◌, ◌≤◌}
use native.Mathlib.Omega.{arith}
use native.Mathlib.Numerals.{add-one}
use mathlib.Core.Path.{◌≡◌, refl, sym, ap, ◌∙◌}
use mathlib.Core.List.{List, [], ◌∷◌}
use mathlib.Core.Bool.{Bool, true, false, true≢false}
use lib.ListN.{length, get_or, take, drop, set, length-drop}
use lib.Seq.{drop-drop, get_or-drop}
use lib.Dec.{ltb, leb, eqb}
use borrow.Author.Tests.{le-ltb, lt-leb, le-leb, eq-eqb, ne_eqb, ltb-true, ltb-false, eqb-true}
use Rattle.std.proofs.Common.{◌/◌, ◌||◌, nat_eq}
use Rattle.std.specs.List.{list_any}
use Rattle.std.specs.Simd.{first_chunks}
use Rattle.base.specs.Pick.{pick}
use Rattle.wire.specs.Bytes.{be32, placed}
use Rattle.wire.specs.Limits.{min_size, max_size}
use Rattle.wire.specs.Layout.{checked_of, seen, is_end_only, handshake_fault, or_fault, number_of, handshake_layout, layout_from, layout_of}
use Rattle.wire.specs.Steps.{has_size, no_survey, turned_of, over, noted, check_spec}
use Rattle.wire.specs.declared.message.Options.{Options}
use Rattle.wire.specs.Layout.{Fault, HandshakeAlone}
use Rattle.wire.specs.declared.survey.Survey.{Survey}
use Rattle.wire.specs.Steps.{On}
use Rattle.format.specs.declared.Format.{Format}

-- ---- whether a node is among the entries: one turn of the search, and its end

module _ (x : ℕ) where
  -- the first entry is the node
  pub seen_here : (es : List ℕ) → 2 ≤ length es → get_or es 0 0 ≡ x → seen x es ≡ true
  unfolding seen
  seen_here [] h e = absurd (omega arith)
  seen_here (n ∷ []) h e = absurd (omega arith)
  seen_here (n ∷ p ∷ es) h e = rw (eq-eqb n x e)

  -- the first entry is another node
  pub seen-on : (es : List ℕ) → 2 ≤ length es → (get_or es 0 0 ≡ x → ⊥) → seen x es ≡ seen x (drop 2 es)
  unfolding seen
  seen-on [] h e = absurd (omega arith)
  seen-on (n ∷ []) h e = absurd (omega arith)
  seen-on (n ∷ p ∷ es) h e = rw (ne_eqb n x e)

  -- the entry with k before it is the node's
  pub seen_at : (k : ℕ) (es : List ℕ) → 2 * k + 2 ≤ length es → get_or es (2 * k) 0 ≡ x → seen x es ≡ true
  unfolding seen
  seen_at zero es h e = seen_here es (omega arith) e
  seen_at (suc k) [] h e = absurd (omega arith)
  seen_at (suc k) (n ∷ []) h e = absurd (omega arith)
  seen_at (suc k) (n ∷ p ∷ es) h e =
      let j : 2 * suc k ≡ suc (suc (2 * k)) = omega arith in
      by (seen_at k es (omega arith) (ap (λ (i : ℕ). get_or (n ∷ p ∷ es) i 0) (sym j) ∙ e)) (eqb n x)
    where
      by : seen x es ≡ true → (b : Bool) → pick b true (seen x es) ≡ true
      by q true = refl
      by q false = q

  -- the first four entries are other nodes
  pub seen-on-four : (es : List ℕ) → 8 ≤ length es → (get_or es 0 0 ≡ x → ⊥) → (get_or es 2 0 ≡ x → ⊥) → (get_or es 4 0 ≡ x → ⊥) → (get_or es 6 0 ≡ x → ⊥) → seen x es ≡ seen x (drop 8 es)
  seen-on-four es h a b c d =
      seen-on es (omega arith) a
      ∙ seen-on (drop 2 es) (omega (arith, length-drop 2 es)) (λ e. b (sym (get_or-drop 2 es 0 0) ∙ e))
      ∙ ap (seen x) (drop-drop 2 2 es)
      ∙ seen-on (drop 4 es) (omega (arith, length-drop 4 es)) (λ e. c (sym (get_or-drop 4 es 0 0) ∙ e))
      ∙ ap (seen x) (drop-drop 2 4 es)
      ∙ seen-on (drop 6 es) (omega (arith, length-drop 6 es)) (λ e. d (sym (get_or-drop 6 es 0 0) ∙ e))
      ∙ ap (seen x) (drop-drop 2 6 es)

-- the search by pairs
abbrev pub names : ℕ → List ℕ → Bool
names x p = nat_eq (get_or p 0 0) x

pub seen_pairs : (x : ℕ) (es : List ℕ) → seen x es ≡ list_any (names x) (first_chunks 2 (length es / 2) es)
unfolding seen
seen_pairs x [] = refl
seen_pairs x (n ∷ []) = refl
seen_pairs x (n ∷ p ∷ es) =
    let e : suc (suc (length es)) / 2 ≡ suc (length es / 2) = omega arith in
    rw (e, seen_pairs x es) (go (nat_eq n x))
  where
    go : (t : Bool) → pick t true (list_any (names x) (first_chunks 2 (length es / 2) es)) ≡ t || list_any (names x) (first_chunks 2 (length es / 2) es)
    go true = refl
    go false = refl

-- ---- a HANDSHAKE's channel numbers and options

module _ (to a : ℕ) (o : Options) where
  -- it opens a channel
  pub fault-none : (a ≡ 0 → ⊥) → 0 ≡ handshake_fault to a o
  unfolding handshake_fault
  fault-none h = simp (ne_eqb _ _ h)

  module _ (closing : a ≡ 0) where
    -- both numbers are 0
    pub fault-zero : to ≡ 0 → 3 ≡ handshake_fault to a o
    unfolding handshake_fault
    fault-zero h = simp (eq-eqb _ _ closing, eq-eqb _ _ h)

    module _ (other : to ≡ 0 → ⊥) (b : Bool) (g : b ≡ is_end_only o) where
      -- it closes, with End alone
      pub fault-closing : b ≡ true → 0 ≡ handshake_fault to a o
      unfolding handshake_fault
      fault-closing h = simp (eq-eqb _ _ closing, ne_eqb _ _ other, ← g, h)

      -- it closes, with other options
      pub fault-options : b ≡ false → 3 ≡ handshake_fault to a o
      unfolding handshake_fault
      fault-options h = simp (eq-eqb _ _ closing, ne_eqb _ _ other, ← g, h)

-- ---- a HANDSHAKE's place in the datagram

module _ (s : List ℕ) (at next a : ℕ) (o : Options) where
  -- a message stands before it
  pub alone-before : (at ≡ min_size → ⊥) → Fault 3 ≡ handshake_layout s at next a o
  unfolding handshake_layout
  alone-before h = simp (ne_eqb at min_size h)

  module _ (front : at ≡ min_size) where
    -- a byte stands behind it
    pub alone-behind : (next ≡ length s → ⊥) → Fault 3 ≡ handshake_layout s at next a o
    unfolding handshake_layout
    alone-behind h = simp (eq-eqb at min_size front, ne_eqb next (length s) h)

    module _ (whole : next ≡ length s) (d w : ℕ) (de : d ≡ be32 s 0) (we : w ≡ handshake_fault d a o) where
      -- it is alone, so its fault decides
      opened : handshake_layout s at next a o ≡ or_fault w (HandshakeAlone a o)
      unfolding handshake_layout
      opened = simp (eq-eqb at min_size front, eq-eqb next (length s) whole, ← de, ← we)

      -- it has a fault
      pub alone-fault : (w ≡ 0 → ⊥) → Fault w ≡ handshake_layout s at next a o
      alone-fault h = stop w h ∙ sym opened
        where
          stop : (v : ℕ) → (v ≡ 0 → ⊥) → Fault v ≡ or_fault v (HandshakeAlone a o)
          stop zero q = absurd (q refl)
          stop (suc v) q = refl

      -- it has none
      pub alone-good : w ≡ 0 → HandshakeAlone a o ≡ handshake_layout s at next a o
      alone-good h = sym (opened ∙ rw h)

  -- one that passes stands alone
  pub alone-whole : number_of (handshake_layout s at next a o) ≡ 0 → (at ≡ min_size) × (next ≡ length s)
  unfolding handshake_layout
  alone-whole = by (eqb at min_size) (eqb next (length s)) refl refl
    where
      by : (x y : Bool) → eqb at min_size ≡ x → eqb next (length s) ≡ y
          → number_of (or_fault (pick x (pick y (handshake_fault (be32 s 0) a o) 3) 3) (HandshakeAlone a o)) ≡ 0 → (at ≡ min_size) × (next ≡ length s)
      by true true p q e = (eqb-true at min_size p, eqb-true next (length s) q)
      by true false p q e = absurd (omega (arith, e))
      by false y p q e = absurd (omega (arith, e))

-- ---- an INTEGRITY

module _ (room : List ℕ) (used : ℕ) (v : Survey) (node hash next : ℕ) (b : Bool) (e : b ≡ seen node (take (used - 0) (drop 0 room))) where
  -- the entries, which the code has as a part of a slice
  came : b ≡ seen node (take used room)
  came = let q : used - 0 ≡ used = omega arith in rw q at e

  -- its node came before
  pub note-seen : b ≡ true → {w : Survey} → w ≡ no_survey → over (Fault 2) w room ≡ noted room used v node hash next
  unfolding noted
  note-seen p g = let q = came in simp (← q, p, g)

  -- its node is stored, with the place of its hash
  pub note-new : b ≡ false → turned_of (On next (used + 2) v) (set (set room used node) (used + 1) hash) ≡ noted room used v node hash next
  unfolding noted placed
  note-new p = let q = came in rw (add-one used) (simp (← q, p))

-- ---- the size

-- a sound one
pub sized : (n : ℕ) → has_size n ≡ true → (min_size ≤ n) × (n ≤ max_size)
unfolding has_size
sized n = by (ltb n min_size) (ltb max_size n) refl refl
  where
    by : (a b : Bool) → ltb n min_size ≡ a → ltb max_size n ≡ b → pick a false (pick b false true) ≡ true → (min_size ≤ n) × (n ≤ max_size)
    by true b p q e = absurd (true≢false (sym e))
    by false true p q e = absurd (true≢false (sym e))
    by false false p q e = (ltb-false n min_size p, ltb-false max_size n q)

-- the code's test of the other bound
pub size-test : (n : ℕ) → min_size ≤ n → leb n max_size ≡ has_size n
unfolding has_size
size-test n h = simp (le-ltb n min_size h) (by (ltb max_size n) refl)
  where
    by : (b : Bool) → ltb max_size n ≡ b → leb n max_size ≡ pick b false true
    by true e = lt-leb n max_size (ltb-true max_size n e)
    by false e = le-leb n max_size (ltb-false max_size n e)

-- the messages decide
pub layout_sized : (F : Format) (s : List ℕ) → min_size ≤ length s → length s ≤ max_size → layout_of F s ≡ layout_from F (length s) s [] min_size
unfolding layout_of
layout_sized F s low high = simp (le-ltb (length s) min_size low, le-ltb max_size (length s) high)

-- any other is refused with 1
pub layout_unsized : (F : Format) (s : List ℕ) → has_size (length s) ≡ false → layout_of F s ≡ checked_of (Fault 1) []
unfolding layout_of has_size
layout_unsized F s = by (ltb (length s) min_size) (ltb max_size (length s))
  where
    by : (a b : Bool) → pick a false (pick b false true) ≡ false
        → pick a (checked_of (Fault 1) []) (pick b (checked_of (Fault 1) []) (layout_from F (length s) s [] min_size)) ≡ checked_of (Fault 1) []
    by true b e = refl
    by false true e = refl
    by false false e = absurd (true≢false e)

pub check_unsized : (F : Format) (room s : List ℕ) → has_size (length s) ≡ false → checked_of (Fault 1) room ≡ check_spec F room s
unfolding check_spec placed
check_unsized F room s h = rw (layout_unsized F s h)
