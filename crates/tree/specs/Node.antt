-- A node by its height and its first chunk: (h, a) covers the 2 ^ h chunks from a, and its children are (h - 1, a) and
-- (h - 1, a + 2 ^ (h - 1)) (RFC 7574, 4.2). So all recursion is on the height, downwards. Assumes nothing.
use Rattle.std.specs.Prelude.{ℕ, suc, ◌+◌, ◌*◌, ◌/◌, ◌^◌, nat_lt}
use Rattle.tree.specs.Bin.{bin}
use Rattle.base.specs.Pick.{pick}

pub record Node : Type 0 where
  pub high : ℕ
  pub from : ℕ

abbrev pub node : ℕ → ℕ → Node
node h a = record { high = h; from = a }

-- Its bin number.
abbrev pub num : Node → ℕ
num n = bin n.high n.from

-- The first chunk of the node of height h above chunk c,
abbrev pub above : ℕ → ℕ → ℕ
above h c = c / 2 ^ h * 2 ^ h

-- and of its sibling, their parent's other child.
abbrev pub sibling_from : ℕ → ℕ → ℕ
sibling_from h c = pick (nat_lt c (above (suc h) c + 2 ^ h)) (above (suc h) c + 2 ^ h) (above (suc h) c)
