-- A list of known length, written out cell by cell. Assumes nothing.
use Rattle.std.proofs.Common.{◌≡◌, ℕ, zero, suc, ◌+◌, List, [], ◌∷◌, length, get_or, drop, ap, ◌∙◌, arith, drop_of_length-le, drop-cons}

-- The n elements of w from number i on: at a numeral n it computes to n cells.
abbrev pub cells : (n i : ℕ) → List ℕ → List ℕ
cells zero i w = []
cells (suc n) i w = get_or w i 0 ∷ cells n (suc i) w

cells-from : (n i : ℕ) (w : List ℕ) → length w ≡ i + n → drop i w ≡ cells n i w
cells-from zero i w e = drop_of_length-le w {i = i} (omega arith)
cells-from (suc n) i w e = drop-cons w i 0 (omega arith) ∙ ap (λ (l : List ℕ). get_or w i 0 ∷ l) (cells-from n (suc i) w (omega arith))

pub cells_is : (n : ℕ) (w : List ℕ) → length w ≡ n → w ≡ cells n 0 w
cells_is n w e = cells-from n 0 w (omega arith)
