-- A pack of L bytes in chunks of S, and the least tree over its N chunks (01, "What a store works under" and "Nodes
-- and the tree"). The yard profile's chunk size and length limit stand here alone. Assumes nothing.
use Rattle.std.specs.Prelude.{ℕ, zero, suc, ◌+◌, ◌-◌, ◌*◌, ◌/◌, ◌^◌, min, Bool, List, take, drop, nat_le}
use Rattle.tree.specs.Bin.{bin}
use Rattle.base.specs.Pick.{pick}

-- Chunks are 1,024 bytes, the last one 1 to 1,024; a pack has at most 524,288 bytes.
abbrev pub chunk_size : ℕ
chunk_size = 1024

abbrev pub max_length : ℕ
max_length = 524288

-- N is L divided by S, rounded up.
abbrev pub chunks : ℕ → ℕ → ℕ
chunks S L = (L + (S - 1)) / S

-- The size of chunk i: 0 past the end.
abbrev pub size : ℕ → ℕ → ℕ → ℕ
size S L i = min S (L - S * i)

-- The bytes of chunk i of a pack s.
abbrev pub part : ℕ → ℕ → List ℕ → ℕ → List ℕ
part S L s i = take (size S L i) (drop (S * i) s)

-- The least of the d numbers from h on that passes a test; if none does, the next.
unfoldable pub least_from : (ℕ → Bool) → ℕ → ℕ → ℕ
least_from f zero h = h
least_from f (suc d) h = pick (f h) h (least_from f d (suc h))

-- The height of the least tree with at least N leaves.
unfoldable pub levels : ℕ → ℕ
levels N = least_from (λ h. nat_le N (2 ^ h)) N 0

-- Its leaf places, and its root's number.
abbrev pub leaf_places : ℕ → ℕ
leaf_places N = 2 ^ levels N

abbrev pub root_node : ℕ → ℕ
root_node N = bin (levels N) 0
