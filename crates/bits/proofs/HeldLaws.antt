-- The run of set bits below a place, and from a place on. Assumes nothing.
use Prim.Native.Nat.{ℕ, zero, suc, ◌+◌, ◌-◌, ◌*◌, ◌≤◌, ◌<◌}
use native.Mathlib.Nat.{add-zero, sub-zero, zero-add, suc-sub-suc}
use native.Mathlib.Omega.{arith}
use mathlib.Core.Path.{◌≡◌, refl}
use mathlib.Core.Bool.{Bool, true, false}
use mathlib.Core.List.{List}
use lib.ListN.{length}
use Rattle.bits.specs.Bits.{bit_at, longer, held_below, held_from}
use Rattle.bits.proofs.RowLaws.{bit_at-past}

-- ---- one bit more

longer_le : (b : Bool) (n : ℕ) → longer b n ≤ suc n
longer_le true n = omega arith
longer_le false n = omega arith

longer_some : (b : Bool) (n m : ℕ) → suc m ≤ longer b n → (b ≡ true) × (m ≤ n)
longer_some true n m h = (refl, omega arith)
longer_some false n m h = absurd (omega arith)

longer-none : (b : Bool) (n : ℕ) → longer b n ≡ 0 → b ≡ false
longer-none true n h = absurd (omega arith)
longer-none false n h = refl

module _ (ws : List ℕ) where
  -- ---- below a place

  pub held-below_le : (c : ℕ) → held_below ws c ≤ c
  unfolding held_below
  held-below_le zero = omega arith
  held-below_le (suc c) = omega (arith, longer_le (bit_at ws c) (held_below ws c), held-below_le c)

  -- After m bits of the run comes the run below them.
  below_on : (c m : ℕ) → m ≤ held_below ws c → held_below ws c ≡ m + held_below ws (c - m)
  unfolding held_below
  below_on c zero h = rw (sub-zero c, zero-add (held_below ws c))
  below_on zero (suc m) h = absurd (omega arith)
  below_on (suc c) (suc m) h =
      let s = longer_some (bit_at ws c) (held_below ws c) m h in
      rw (s.0, suc-sub-suc c m) (omega (arith, below_on c m s.1))

  -- After those down to place i comes the run below it.
  pub below_at : (c i : ℕ) → i ≤ c → c - i ≤ held_below ws c → held_below ws c ≡ c - i + held_below ws i
  below_at c i h l = let at : c - (c - i) ≡ i = omega arith in rw at at (below_on c (c - i) l)

  -- Past the row there is none.
  pub below-past : (c : ℕ) → length ws * 32 < c → held_below ws c ≡ 0
  unfolding held_below
  below-past zero h = refl
  below-past (suc c) h = rw (bit_at-past ws c (omega arith))

  pub held-below-set : (c j : ℕ) → j < c → c ≤ j + held_below ws c → bit_at ws j ≡ true
  unfolding held_below
  held-below-set c j l h =
      let r = below_at c (suc j) l (omega arith) in
      (longer_some (bit_at ws j) (held_below ws j) 0 (omega arith)).0

  pub held-below_stop : (c j : ℕ) → suc j + held_below ws c ≡ c → bit_at ws j ≡ false
  unfolding held_below
  held-below_stop c j h =
      let r = below_at c (suc j) (omega arith) (omega arith) in
      longer-none (bit_at ws j) (held_below ws j) (omega arith)

  -- ---- from a place on

  pub held-from_le : (d x : ℕ) → held_from ws d x ≤ d
  unfolding held_from
  held-from_le zero x = omega arith
  held-from_le (suc d) x = omega (arith, longer_le (bit_at ws x) (held_from ws d (suc x)), held-from_le d (suc x))

  -- After m bits of the run comes the run from behind them on.
  from_on : (d x m : ℕ) → m ≤ held_from ws d x → held_from ws d x ≡ m + held_from ws (d - m) (x + m)
  unfolding held_from
  from_on d x zero h = rw (sub-zero d, add-zero x, zero-add (held_from ws d x))
  from_on zero x (suc m) h = absurd (omega arith)
  from_on (suc d) x (suc m) h =
      let s = longer_some (bit_at ws x) (held_from ws d (suc x)) m h in
      let e : x + suc m ≡ suc x + m = omega arith in
      rw (s.0, suc-sub-suc d m, e) (omega (arith, from_on d (suc x) m s.1))

  -- After those up to place i comes the run from it on, all below place u.
  pub from_at : (x i u : ℕ) → x ≤ i → i - x ≤ held_from ws (u - x) x
      → held_from ws (u - x) x ≡ i - x + held_from ws (u - i) i
  from_at x i u h l =
      let left : u - x - (i - x) ≡ u - i = omega arith in
      let at : x + (i - x) ≡ i = omega arith in
      rw (left, at) at (from_on (u - x) x (i - x) l)

  -- Past the row there is none.
  pub from_past : (d x : ℕ) → length ws * 32 ≤ x → held_from ws d x ≡ 0
  unfolding held_from
  from_past zero x h = refl
  from_past (suc d) x h = rw (bit_at-past ws x h)

  pub held-from-set : (d x j : ℕ) → x ≤ j → j < x + held_from ws d x → bit_at ws j ≡ true
  unfolding held_from
  held-from-set d x j h l =
      let n : ℕ = d - (j - x) - 1 in
      let at : x + (j - x) ≡ j = omega arith in
      let left : d - (j - x) ≡ suc n = omega (arith, held-from_le d x) in
      let r = rw (at, left) at (from_on d x (j - x) (omega arith)) in
      (longer_some (bit_at ws j) (held_from ws n (suc j)) 0 (omega arith)).0

  pub held-from_stop : (d x : ℕ) → held_from ws d x < d → bit_at ws (x + held_from ws d x) ≡ false
  unfolding held_from
  held-from_stop d x h =
      let m : ℕ = held_from ws d x in
      let n : ℕ = d - m - 1 in
      let left : d - m ≡ suc n = omega arith in
      let r = rw left at (from_on d x m (omega arith)) in
      longer-none (bit_at ws (x + m)) (held_from ws n (suc (x + m))) (omega arith)
