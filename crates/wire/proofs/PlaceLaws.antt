-- Laws of the chunks that a message names, method by method, test by test as the code has them. Assumes nothing.
use Prim.Native.Nat.{ℕ, ◌+◌, ◌≤◌}
use native.Mathlib.Omega.{arith}
use mathlib.Core.Path.{◌≡◌, refl, sym, ap, ◌∙◌}
use mathlib.Core.List.{List}
use mathlib.Core.Bool.{Bool, true, false, not, true≢false}
use borrow.Author.Tests.{eq-eqb, ne_eqb, eqb-true, le-ltb, le-leb, lt-leb, ltb-false, ltb-true}
use Rattle.base.specs.Pick.{pick}
use Rattle.tree.proofs.Promise.{covers, node_of_range, first, first_chunk, first_plus_last, first-to-last, last}
use Rattle.std.specs.Prelude.{is_some, Some, None}
use Rattle.wire.specs.Bytes.{be32}
use Rattle.wire.specs.Place.{first_of, last_of, empty_bin, everything_bin, is_empty, is_special, place_by, place_size, reach, reach_by, first_by, last_by, empty_by, special_by}
use Rattle.wire.specs.Read.{names_node}
use Rattle.wire.specs.Steps.{range_of}
use Rattle.wire.specs.declared.range.Range.{Range}
use Rattle.format.specs.declared.Addressing.{Addressing}
use Rattle.format.specs.declared.Addressing.TheVariants.{Bins, Ranges}
use Rattle.format.specs.declared.Format.{Format}
use lib.Dec.{eqb, leb, ltb}

-- the code's test of two numbers in order
pub order-test : (f l : ℕ) → leb f l ≡ not (ltb l f)
order-test f l = by (ltb l f) refl
  where
    by : (b : Bool) → ltb l f ≡ b → leb f l ≡ not b
    by true e = lt-leb f l (ltb-true l f e)
    by false e = le-leb f l (ltb-false l f e)

-- 4 or 8 bytes name them
pub place-least : (F : Format) → 4 ≤ place_size F
unfolding place_size
place-least F = by F.addressing
  where
    by : (a : Addressing) → 4 ≤ place_by a
    by Bins = omega arith
    by Ranges = omega arith

pub place_most : (F : Format) → place_size F ≤ 8
unfolding place_size
place_most F = by F.addressing
  where
    by : (a : Addressing) → place_by a ≤ 8
    by Bins = omega arith
    by Ranges = omega arith

-- by the method
pub place_bins : (F : Format) → F.addressing ≡ Bins → place_size F ≡ 4
unfolding place_size
place_bins F h = rw h

pub place_ranges : (F : Format) → F.addressing ≡ Ranges → place_size F ≡ 8
unfolding place_size
place_ranges F h = rw h

module _ (F : Format) (t : List ℕ) where
  pub range-bins : F.addressing ≡ Bins → {b : ℕ} → b ≡ be32 t 1 → {f l : ℕ} → f ≡ first b → l ≡ last b → ◌≡◌ {A = Range} (record { first = f; last = l }) (range_of F t)
  unfolding first_of last_of
  range-bins h e p q = rw (h, ← e) cc

  pub range-ranges : F.addressing ≡ Ranges → {f l : ℕ} → f ≡ be32 t 1 → l ≡ be32 t 5 → ◌≡◌ {A = Range} (record { first = f; last = l }) (range_of F t)
  unfolding first_of last_of
  range-ranges h p q = rw h cc

  pub empty-bins : F.addressing ≡ Bins → {b : ℕ} → b ≡ be32 t 1 → eqb b empty_bin ≡ is_empty F t
  unfolding is_empty
  empty-bins h e = rw (h, e)

  pub empty-ranges : F.addressing ≡ Ranges → false ≡ is_empty F t
  unfolding is_empty
  empty-ranges h = rw h

  pub special-none : F.addressing ≡ Bins → {b : ℕ} → b ≡ be32 t 1 → b ≡ empty_bin → true ≡ is_special F t
  unfolding is_special
  special-none h e p = rw (h, ← e, eq-eqb _ _ p)

  pub special-all : F.addressing ≡ Bins → {b : ℕ} → b ≡ be32 t 1 → (b ≡ empty_bin → ⊥) → eqb b everything_bin ≡ is_special F t
  unfolding is_special
  special-all h e p = rw (h, ← e, ne_eqb _ _ p)

  pub special-ranges : F.addressing ≡ Ranges → false ≡ is_special F t
  unfolding is_special
  special-ranges h = rw h

  -- whether they are a node's
  pub node-special : {b : Bool} → b ≡ is_special F t → b ≡ true → false ≡ names_node F t
  unfolding names_node
  node-special e p = rw (← e, p)

  pub node-bins : {b : Bool} → b ≡ is_special F t → b ≡ false → F.addressing ≡ Bins → true ≡ names_node F t
  unfolding names_node first_of last_of
  node-bins e p h = rw (← e, p, h, first_plus_last (be32 t 1), eq-eqb (first (be32 t 1)) _ refl, eq-eqb (last (be32 t 1)) _ refl)

  pub node-ranges : {b : Bool} → b ≡ is_special F t → b ≡ false → F.addressing ≡ Ranges → {f l : ℕ} → f ≡ be32 t 1 → l ≡ be32 t 5
      → {c : Bool} → c ≡ covers (f + l) f l → c ≡ names_node F t
  unfolding names_node first_of last_of
  node-ranges e p h fe le g = rw (← e, p, h, ← fe, ← le) g

  -- in order
  pub order-bins : F.addressing ≡ Bins → true ≡ not (ltb (last_of F t) (first_of F t))
  unfolding first_of last_of
  order-bins h = rw (h, le-ltb (last (be32 t 1)) (first (be32 t 1)) (first-to-last (be32 t 1)))

  pub order-ranges : F.addressing ≡ Ranges → {f l : ℕ} → f ≡ be32 t 1 → l ≡ be32 t 5 → leb f l ≡ not (ltb (last_of F t) (first_of F t))
  unfolding first_of last_of
  order-ranges h {f} {l} fe le = order-test f l ∙ rw (h, fe, le)

  -- the last, and the node's number
  pub last-bins : F.addressing ≡ Bins → {b : ℕ} → b ≡ be32 t 1 → {l : ℕ} → l ≡ last b → l ≡ last_of F t
  unfolding last_of
  last-bins h e p = rw (h, ← e) p

  pub last-ranges : F.addressing ≡ Ranges → {l : ℕ} → l ≡ be32 t 5 → l ≡ last_of F t
  unfolding last_of
  last-ranges h p = rw h p

  pub number-bins : F.addressing ≡ Bins → {b : ℕ} → b ≡ be32 t 1 → b ≡ first_of F t + last_of F t
  unfolding first_of last_of
  number-bins h e = rw h (e ∙ sym (first_plus_last (be32 t 1)))

  pub number-ranges : F.addressing ≡ Ranges → {f l : ℕ} → f ≡ be32 t 1 → l ≡ be32 t 5 → f + l ≡ first_of F t + last_of F t
  unfolding first_of last_of
  number-ranges h fe le = rw (h, fe, le)

  -- the chunk by which they are past the pack
  pub reach-bins : F.addressing ≡ Bins → {b : ℕ} → b ≡ be32 t 1 → {f : ℕ} → f ≡ first b → f ≡ reach F (first_of F t) (last_of F t)
  unfolding reach first_of last_of
  reach-bins h e p = rw (h, ← e) p

  pub reach-ranges : F.addressing ≡ Ranges → {l : ℕ} → l ≡ be32 t 5 → l ≡ reach F (first_of F t) (last_of F t)
  unfolding reach last_of
  reach-ranges h p = rw h p

-- no chunk is in order, and past no pack
pub none-order : (F : Format) (t : List ℕ) → is_empty F t ≡ true → ltb (last_of F t) (first_of F t) ≡ false
unfolding is_empty first_of last_of
none-order F t = by F.addressing
  where
    by : (a : Addressing) → empty_by a t ≡ true → ltb (last_by a t) (first_by a t) ≡ false
    by Bins e = le-ltb (last (be32 t 1)) (first (be32 t 1)) (first-to-last (be32 t 1))
    by Ranges e = absurd (true≢false (sym e))

pub none-reach : (F : Format) (t : List ℕ) → is_empty F t ≡ true → reach F (first_of F t) (last_of F t) ≡ 0
unfolding is_empty first_of last_of reach
none-reach F t = by F.addressing
  where
    by : (a : Addressing) → empty_by a t ≡ true → reach_by a (first_by a t) (last_by a t) ≡ 0
    by Bins e = ap first (eqb-true (be32 t 1) empty_bin e) ∙ first_chunk 32 0
    by Ranges e = absurd (true≢false (sym e))

-- neither none nor all
pub not_none : (F : Format) (t : List ℕ) → is_special F t ≡ false → is_empty F t ≡ false
unfolding is_special is_empty
not_none F t = by F.addressing
  where
    none : (x y : Bool) → pick x true y ≡ false → x ≡ false
    none true y e = e
    none false y e = refl

    by : (a : Addressing) → special_by a t ≡ false → empty_by a t ≡ false
    by Bins e = none (eqb (be32 t 1) empty_bin) (eqb (be32 t 1) everything_bin) e
    by Ranges e = refl

pub first_is : (F : Format) (t : List ℕ) {r : Range} → r ≡ range_of F t → r.first ≡ first_of F t
first_is F t e = ap (λ (x : Range). x.first) e

pub last_is : (F : Format) (t : List ℕ) {r : Range} → r ≡ range_of F t → r.last ≡ last_of F t
last_is F t e = ap (λ (x : Range). x.last) e

-- a range has a node where it covers just that
pub node-found : (f l : ℕ) → is_some (node_of_range f l) ≡ covers (f + l) f l
unfolding node_of_range
node-found f l = by (covers (f + l) f l)
  where
    by : (b : Bool) → is_some (pick b (Some (f + l)) None) ≡ b
    by true = refl
    by false = refl
