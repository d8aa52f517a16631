-- The search for the interval, return by return as the code has it. Assumes nothing.
use Prim.Native.Nat.{ℕ, ◌+◌, ◌-◌, ◌^◌, ◌≤◌, ◌<◌}
use native.Mathlib.Numerals.{add-one}
use native.Mathlib.Omega.{arith}
use native.Mathlib.Decide.{dec_lt}
use mathlib.Core.Path.{◌≡◌, sym, ◌∙◌}
use mathlib.Core.Logic.{◌⊎◌, inl, inr}
use mathlib.Core.Bool.{false, true≢false}
use mathlib.Core.List.{List}
use lib.Pow.{pow_pos}
use Rattle.bits.proofs.Promise.{held_below, held_from, held-from_le}
use Rattle.format.specs.declared.Addressing.TheVariants.{Bins, Ranges}
use Rattle.format.specs.declared.Format.{Format}
use Rattle.tree.proofs.Promise.{above, levels, above_nested}
use Rattle.wire.specs.declared.range.Range.{Range}
use Rattle.held.specs.Interval.{interval, run_around, is_within, height_within, complete_interval}
use Rattle.held.proofs.IntervalLaws.{run-covers, Within, within_if, height_le, height-in, height-most}

-- ---- the run

module _ (map : List ℕ) (n c : ℕ) {f : ℕ} (fe : f ≡ held_from map (n - (c + 1)) (c + 1)) where
  pub behind-le : f ≤ n - (c + 1)
  behind-le = omega (arith, held-from_le map (n - (c + 1)) (c + 1))

  pub run_is : {b : ℕ} → b ≡ held_below map c → interval (c - b) (c + f) ≡ run_around map n c
  unfolding run_around
  run_is be = rw (be, fe, add-one c)

-- ---- a height

-- The leaf lies within chunks around c.
pub leaf_in : (c : ℕ) (i : Range) → (i.first ≤ c) × (c ≤ i.last) → Within 0 c i
leaf_in c i k = omega arith

-- The height to which the nodes above c lie within is the largest: a node within has all below it within.
pub height_is : (c : ℕ) (i : Range) → (i.first ≤ c) × (c ≤ i.last) → (d h : ℕ) → h ≤ d → Within h c i
    → (is_within (h + 1) c i ≡ false) ⊎ (d ≤ h) → h ≡ height_within d c i
height_is c i k d h l w stop = go stop (dec_lt h (height_within d c i))
  where
    most : h ≤ height_within d c i
    most = height-most c i k d h l w

    go : (is_within (h + 1) c i ≡ false) ⊎ (d ≤ h) → Dec (h < height_within d c i) → h ≡ height_within d c i
    go (inl e) (yes b) =
        let n = above_nested (h + 1) (height_within d c i) c (omega arith) in
        let p = height-in c i k d in
        absurd (true≢false (sym (within_if (h + 1) c i (omega (arith, n, p), omega (arith, n, p))) ∙ e))
    go (inr e) (yes b) = absurd (omega (arith, height_le c i d))
    go e (no b) = omega (arith, most)

-- ---- by the method

module _ (map : List ℕ) (n c : ℕ) {run : Range} (re : run ≡ run_around map n c) where
  -- What the search for the height asks for.
  pub run-around-c : {d : ℕ} → d ≤ 32 → (d < 59) × (run.first ≤ c) × (c ≤ run.last)
  run-around-c l = let k = run-covers map n c in (omega arith, rw re k.0, rw re k.1)

  pub ranges-are : (F : Format) → F.addressing ≡ Ranges → run ≡ complete_interval F map n c
  unfolding complete_interval
  ranges-are F e = rw e re

  -- The height found, the first chunk of the node, and its width.
  module _ {d h a w : ℕ} (de : d ≡ levels n) (he : h ≡ height_within d c run)
      (ae : a ≡ above h c) (we : w ≡ 2 ^ h) where
    found : h ≡ height_within (levels n) c (run_around map n c)
    found = he ∙ rw (de, re)

    -- Its last chunk is no later than the run's.
    pub node_in : a + w ≤ run.last + 1
    node_in =
        let g = found in
        let p = (height-in c (run_around map n c) (run-covers map n c) (levels n)).1 in
        rw (ae, we, re, g) p

    pub bins-are : (F : Format) → F.addressing ≡ Bins → interval a (a + (w - 1)) ≡ complete_interval F map n c
    unfolding complete_interval
    bins-are F e =
        let l : a + (w - 1) ≡ above h c + 2 ^ h - 1 = omega (arith, ae, we, pow_pos h) in
        rw (e, ← found, l, ae)
