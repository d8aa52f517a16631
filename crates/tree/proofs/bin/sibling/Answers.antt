use Rattle.std.proofs.Common.{ap, arith}
use Rattle.tree.specs.Steps.{sibling}
use Rattle.tree.proofs.BinLaws.{exponent_lt}
use Rattle.tree.proofs.KinLaws.{sibling-of-left, sibling-of-right}
use Rattle.tree.proofs.bin.sibling.Goals as goal

pub pow2-w-requires : goal.pow2-w-requires
pow2-w-requires c = exponent_lt c.height.result 64 (omega arith)

pub returns-then-x-w-eq0 : goal.returns-then-x-w-eq0
returns-then-x-w-eq0 c = omega (arith, ap sibling c.from-x.ensures, sibling-of-left _ _ _ c.height.ensures.0 c.pow2-w.ensures.0 c.if-x-w-eq0.true)

pub returns-else-x-w-eq0 : goal.returns-else-x-w-eq0
returns-else-x-w-eq0 c = omega (arith, ap sibling c.from-x.ensures, sibling-of-right _ _ _ c.height.ensures.0 c.pow2-w.ensures.0 c.if-x-w-eq0.false)
