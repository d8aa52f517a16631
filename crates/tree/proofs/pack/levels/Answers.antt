use Rattle.std.proofs.Common.{arith}
use Rattle.tree.proofs.PackLaws.{levels_leading}
use Rattle.tree.proofs.pack.levels.Goals as goal

pub returns : goal.returns
returns c = rw c.saturating_sub.ensures (levels_leading c.args.n c.ranges.n.fits, omega arith)
