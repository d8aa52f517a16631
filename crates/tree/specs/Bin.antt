-- Bin numbers (RFC 7574, 4.2; 01, "Nodes and the tree"): a node's height, and the chunks that it covers. Assumes
-- nothing.
use Rattle.std.specs.Prelude.{ℕ, zero, suc, ◌+◌, ◌-◌, ◌*◌, ◌/◌, ◌%◌, ◌^◌, ◌==◌}
use Rattle.base.specs.Pick.{pick}

-- How many of b's d lowest digits are ones, counted from the lowest up to the first zero.
unfoldable pub low_ones : ℕ → ℕ → ℕ
low_ones zero b = zero
low_ones (suc d) b = pick (b % 2 == 0) 0 (suc (low_ones d (b / 2)))

-- A node's height is the number of ones at the low end of its number; a number b has no more than b digits.
unfoldable pub height : ℕ → ℕ
height b = low_ones b b

-- Node b of height h covers 2 ^ h chunks from (b - 2 ^ h + 1) / 2.
unfoldable pub first : ℕ → ℕ
first b = (b + 1 - 2 ^ height b) / 2

unfoldable pub last : ℕ → ℕ
last b = first b + 2 ^ height b - 1

-- The node of height h whose first chunk is a, a multiple of 2 ^ h. Chunk i is leaf 2 * i.
abbrev pub bin : ℕ → ℕ → ℕ
bin h a = 2 * a + 2 ^ h - 1
