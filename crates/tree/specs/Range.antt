-- The node of a range of chunks (01, "Numbers given back", 2: "INTEGRITY range no node"). Assumes nothing.
use Rattle.std.specs.Prelude.{ℕ, ◌+◌, Bool, false, ◌==◌, Option, Some, None}
use Rattle.base.specs.Pick.{pick}
use Rattle.tree.specs.Bin.{first, last}

-- Whether node b covers exactly the chunks f..l.
abbrev pub covers : ℕ → ℕ → ℕ → Bool
covers b f l = pick (first b == f) (last b == l) false

-- A node's number is the sum of its first and its last chunk, so no other number can be the range's node.
unfoldable pub node_of_range : ℕ → ℕ → Option ℕ
node_of_range f l = pick (covers (f + l) f l) (Some (f + l)) None
