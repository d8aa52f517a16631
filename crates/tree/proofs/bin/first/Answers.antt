use Rattle.std.proofs.Common.{ℕ, ◌+◌, ◌-◌, ◌/◌, ◌^◌, ap, ap₂, ◌∙◌, arith}
use Rattle.tree.specs.Bin.{height, first}
use Rattle.tree.proofs.BinLaws.{exponent_lt}
use Rattle.tree.proofs.bin.first.Goals as goal

pub pow2-requires : goal.pow2-requires
pow2-requires c = exponent_lt c.height.result 64 (omega arith)

pub returns : goal.returns
unfolding first
returns c = let w = c.pow2.ensures.0 ∙ ap (λ (h : ℕ). 2 ^ h) (c.height.ensures.0 ∙ ap height c.from-x.ensures) in
    ap₂ (λ (x w : ℕ). (x + 1 - w) / 2) c.from-x.ensures w
