-- One turn of a loop, as the code takes it; no paper has these. Assumes nothing.
use Rattle.std.specs.Prelude.{ℕ, suc, ◌+◌, ◌/◌, ◌%◌, ◌^◌, Bool, List, [], ◌∷◌, ◌++◌, map, ◌==◌, nat_le}
use Rattle.std.proofs.lemmas.List.Edits.{sets}
use Rattle.base.specs.Pick.{pick}
use Rattle.tree.specs.Bin.{bin, height, first}
use Rattle.tree.specs.Node.{Node, node, num, sibling_from, above}

-- The parent by its number: the node of the next height above the same first chunk.
unfoldable pub parent : ℕ → ℕ
parent b = bin (suc (height b)) (above (suc (height b)) (first b))

-- The sibling: the parent's other child.
unfoldable pub sibling : ℕ → ℕ
sibling b = bin (height b) (sibling_from (height b) (first b))

-- N has a peak of height h: one per one bit of N.
abbrev pub peak_bit : ℕ → ℕ → Bool
peak_bit N h = N / 2 ^ h % 2 == 1

-- The peak of height h, if there is one, and the sibling of height h of the node above c.
abbrev pub peak_at : ℕ → ℕ → Node
peak_at N h = node h (above (suc h) N)

abbrev pub sibling_at : ℕ → ℕ → Node
sibling_at c h = node h (sibling_from h c)

-- Combining the peaks, from height h to the next: the peak of that height before what is there, or a filler after it
-- if there is anything.
abbrev pub folded : (List ℕ → List ℕ) → List ℕ → ℕ → (ℕ → ℕ → List ℕ) → ℕ → List ℕ → List ℕ
folded H Z N held h acc =
    pick (peak_bit N h) (H (held h (above (suc h) N) ++ acc)) (pick (above h N == N) acc (H (acc ++ Z)))

-- What a height adds to a list of nodes: its peak, if N has one, and its sibling, if it goes out with chunk c: its
-- parent lies within 0..N-1.
abbrev pub peak_turn : ℕ → ℕ → List Node
peak_turn N h = pick (peak_bit N h) (peak_at N h ∷ []) []

abbrev pub sibling_turn : ℕ → ℕ → ℕ → List Node
sibling_turn N c h = pick (nat_le (above (suc h) c + 2 ^ suc h) N) (sibling_at c h ∷ []) []

-- The numbers of ns in the room from place k on; those past its end are left out.
abbrev pub listed : List ℕ → ℕ → List Node → List ℕ
listed room k ns = sets room k (map num ns)
