-- What the code's loops list, height by height. Assumes nothing.
use Rattle.std.proofs.Common.{ℕ, zero, suc, Bool, ltb, List, [], ◌∷◌, ◌++◌}
use Rattle.base.specs.Pick.{pick}
use Rattle.tree.specs.Node.{Node}
use Rattle.tree.specs.Steps.{sibling_at, peak_turn, sibling_turn}

-- The peaks of heights below h.
unfoldable pub peaks_below : ℕ → ℕ → List Node
peaks_below N zero = []
peaks_below N (suc h) = peak_turn N h ++ peaks_below N h

-- What goes out with chunk c, of heights below h: at each height the sibling first and then the peak.
unfoldable pub sent_below : ℕ → ℕ → ℕ → List Node
sent_below N c zero = []
sent_below N c (suc h) = sibling_turn N c h ++ (peak_turn N h ++ sent_below N c h)

-- The peaks, if they are not trusted yet, and the siblings of the nodes above chunk c of heights below t, likewise.
unfoldable pub needed_below : Bool → ℕ → ℕ → ℕ → ℕ → List Node
needed_below trusted N c t zero = []
needed_below trusted N c t (suc h) =
    pick (ltb h t) (sibling_at c h ∷ []) [] ++ (pick trusted [] (peak_turn N h) ++ needed_below trusted N c t h)
