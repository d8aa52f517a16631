use Rattle.std.proofs.Common.{arith}
use Rattle.tree.proofs.KinLaws.{halfway}
use Rattle.tree.proofs.bin.parent.Goals as goal

pub overflow_add-result : goal.overflow_add-result
overflow_add-result c = omega (arith, halfway c.args.b)

pub returns : goal.returns
returns c = omega (arith, halfway c.args.b)
