-- The schedule sixteen words at a time, as the code keeps it. Only private functions and `mix` cite this: no section of
-- the standard is rendered here. Assumes nothing.
use Rattle.std.specs.Prelude.{◌≡◌, ℕ, zero, suc, ◌*◌, List, [], ◌∷◌, take, drop, replicate, slice_index, slice_index_or}
use Rattle.hash.specs.Block.{K, next, extended, round, rounds, sums}

-- The sixteen words of a schedule that follow sixteen.
unfoldable pub next_sixteen : List ℕ → List ℕ
next_sixteen w = drop 16 (extended 16 w)

-- Sixteen words of a schedule without the first, and the word that follows them.
unfoldable pub slid : List ℕ → List ℕ
slid w =
    slice_index w 1 ∷ slice_index w 2 ∷ slice_index w 3 ∷ slice_index w 4 ∷ slice_index w 5 ∷ slice_index w 6 ∷ slice_index w 7 ∷ slice_index w 8 ∷ slice_index w 9 ∷ slice_index w 10 ∷
    slice_index w 11 ∷ slice_index w 12 ∷ slice_index w 13 ∷ slice_index w 14 ∷ slice_index w 15 ∷
    next (slice_index w 14) (slice_index w 9) (slice_index w 1) (slice_index w 0) ∷ []

-- The sixteen constants of the rounds from number 16 * i on.
abbrev pub constants : ℕ → List ℕ
constants i = take 16 (drop (16 * i) K)

-- All the constants, sixteen a row.
abbrev pub rows_of_k : List (List ℕ)
rows_of_k = constants 0 ∷ constants 1 ∷ constants 2 ∷ constants 3 ∷ []

-- One round with the constant k brings the variables v and the row w of the schedule to v' and w'.
pub record Stepped (k : ℕ) (v w v' w' : List ℕ) : Type 0 where
  pub variables : v' ≡ round v k (slice_index w 0)
  pub schedule : w' ≡ slid w

-- Sixteen rounds with the constants k bring the variables v and the row w of the schedule to v' and w'.
pub record Advanced (k v w v' w' : List ℕ) : Type 0 where
  pub variables : v' ≡ rounds 16 v k w
  pub schedule : w' ≡ next_sixteen w

-- Sixteen rounds, given the sum of each one's constant and word.
unfoldable pub summed_rounds : List ℕ → List ℕ → List ℕ
summed_rounds v s = rounds 16 v s (replicate 16 0)

-- i runs of sixteen rounds, with a row of sums for each.
abbrev pub summed_runs : ℕ → List ℕ → (ℕ → List ℕ) → List ℕ
summed_runs zero v s = v
summed_runs (suc i) v s = summed_rounds (summed_runs i v s) (s i)

-- The hash value after the hash value v and a block whose sums are given in four rows.
unfoldable pub mixed_sums : List ℕ → List (List ℕ) → List ℕ
mixed_sums v s = sums v (summed_runs 4 v (λ (i : ℕ). slice_index_or s i []))
