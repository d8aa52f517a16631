use Rattle.std.proofs.Common.{arith}
use Rattle.tree.proofs.BinLaws.{first_plus_last}
use Rattle.tree.proofs.bin.last.Goals as goal

pub overflow_sub-result : goal.overflow_sub-result
overflow_sub-result c = omega (arith, first_plus_last c.args.b)

pub returns : goal.returns
returns c = omega (arith, first_plus_last c.args.b)
