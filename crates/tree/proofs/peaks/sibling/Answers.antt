use Rattle.std.proofs.Common.{arith, pow_mono}
use Rattle.tree.proofs.NodeLaws.{beside-near}
use Rattle.tree.proofs.peaks.sibling.Goals as goal

pub nth-requires : goal.nth-requires
nth-requires c = (c.requires, omega (arith, beside-near c.args.h c.args.c, c.sibling_index.ensures, pow_mono {i = c.args.h} {j = 60} (omega arith)))
