-- The peaks of N chunks, and what goes out with a chunk in 01's order (RFC 7574, 5.4 to 5.6; 01, "Nodes and the tree"
-- and "Writing a chunk"). Assumes nothing.
use Rattle.std.specs.Prelude.{ℕ, zero, suc, ◌+◌, ◌^◌, Bool, ltb, List, [], ◌∷◌, ◌++◌, ◌==◌, nat_le, nat_lt}
use Rattle.base.specs.Pick.{pick}
use Rattle.tree.specs.Node.{Node, node, above, sibling_from}
use Rattle.tree.specs.Pack.{least_from, levels}

-- The whole subtrees that make up a..N-1 from left to right, of heights below h, largest first.
unfoldable pub peaks_from : ℕ → ℕ → ℕ → List Node
peaks_from N zero a = []
peaks_from N (suc h) a = pick (nat_le (a + 2 ^ h) N) (node h a ∷ peaks_from N h (a + 2 ^ h)) (peaks_from N h a)

unfoldable pub peaks : ℕ → List Node
peaks N = peaks_from N (suc (levels N)) 0

-- The height of the peak above chunk c, for c below N: the least whose parent does not lie within 0..N-1.
unfoldable pub peak_height : ℕ → ℕ → ℕ
peak_height N c = least_from (λ h. ltb N (above (suc h) c + 2 ^ suc h)) (levels N) 0

-- The siblings of the nodes above chunk c, of heights below h, highest first.
unfoldable pub siblings : ℕ → ℕ → List Node
siblings c zero = []
siblings c (suc h) = node h (sibling_from h c) ∷ siblings c h

-- ---- by height falling, then by first chunk rising

abbrev pub before : Node → Node → Bool
before m n = pick (m.high == n.high) (nat_le m.from n.from) (nat_lt n.high m.high)

unfoldable pub insert : Node → List Node → List Node
insert m [] = m ∷ []
insert m (n ∷ ns) = pick (before m n) (m ∷ n ∷ ns) (n ∷ insert m ns)

unfoldable pub sort : List Node → List Node
sort [] = []
sort (n ∷ ns) = insert n (sort ns)

-- What goes out with chunk c: all peaks and all siblings below its peak, sorted so.
unfoldable pub sent : ℕ → ℕ → List Node
sent N c = sort (peaks N ++ siblings c (peak_height N c))
