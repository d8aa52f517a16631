use Rattle.std.proofs.Common.{ap₂, arith, ◌∙◌}
use Rattle.tree.proofs.BinLaws.{exponent_lt}
use Rattle.tree.proofs.RangeLaws.{range_by}
use Rattle.tree.specs.Range.{node_of_range}
use Rattle.tree.proofs.bin.node_of_range.Goals as goal

pub pow2-requires : goal.pow2-requires
pow2-requires c = exponent_lt c.height.result 64 (omega arith)

pub returns : goal.returns
returns c = c.then_some.ensures ∙ range_by c.from-f.result c.from.result c.height.result c.pow2.result c.height.ensures.0 c.pow2.ensures.0 ∙ ap₂ node_of_range c.from-f.ensures c.from.ensures
