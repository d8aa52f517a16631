-- A word of a list of stores. Assumes nothing.
use Prim.Native.Nat.{ℕ, zero, suc, ◌+◌, ◌<◌, ◌≤◌}
use native.Mathlib.Omega.{arith}
use mathlib.Core.Path.{◌≡◌, refl, ◌∙◌}
use mathlib.Core.List.{List, [], ◌∷◌}
use lib.ListN.{length, get_or, set, length-set}
use lib.Seq.{sets, get_or-set_same, get_or-set_other}

-- ---- a cell of a list of stores

-- before them
pub cell_before : (xs l : List ℕ) (at i : ℕ) → i < at → get_or (sets l at xs) i 0 ≡ get_or l i 0
cell_before [] l at i h = refl
cell_before (x ∷ xs) l at i h = cell_before xs (set l at x) (suc at) i (omega arith) ∙ get_or-set_other l at i x 0 (λ e. omega arith)

-- behind them
pub cell_behind : (xs l : List ℕ) (at i : ℕ) → at + length xs ≤ i → get_or (sets l at xs) i 0 ≡ get_or l i 0
cell_behind [] l at i h = refl
cell_behind (x ∷ xs) l at i h = cell_behind xs (set l at x) (suc at) i (omega arith) ∙ get_or-set_other l at i x 0 (λ e. omega arith)

-- among them
pub cell_of : (xs l : List ℕ) (at k : ℕ) → k < length xs → at + length xs ≤ length l → get_or (sets l at xs) (at + k) 0 ≡ get_or xs k 0
cell_of [] l at k h r = absurd (omega arith)
cell_of (x ∷ xs) l at zero h r =
    let e : at + 0 ≡ at = omega arith in
    rw e (cell_before xs (set l at x) (suc at) at (omega arith) ∙ get_or-set_same l at x 0 (omega arith))
cell_of (x ∷ xs) l at (suc k) h r =
    let e : at + suc k ≡ suc at + k = omega arith in
    rw e (cell_of xs (set l at x) (suc at) k (omega arith) (rw (length-set l at x) (omega arith)))
