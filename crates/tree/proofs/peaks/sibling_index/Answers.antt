use Rattle.std.proofs.Common.{◌/◌, ap₂}
use Rattle.tree.proofs.NodeLaws.{beside-even, beside_odd}
use Rattle.tree.proofs.peaks.sibling_index.Goals as goal

pub returns-then-k-eq0 : goal.returns-then-k-eq0
returns-then-k-eq0 c = beside-even _ c.args.c _ (ap₂ ◌/◌ c.from.ensures c.pow2.ensures.0) c.if-k-eq0.true

pub returns-else-k-eq0 : goal.returns-else-k-eq0
returns-else-k-eq0 c = beside_odd _ c.args.c _ (ap₂ ◌/◌ c.from.ensures c.pow2.ensures.0) c.if-k-eq0.false
