use native.Mathlib.Omega.{arith}
use Rattle.std.proofs.Common.{◌%◌}
use Rattle.bits.proofs.WordCountLaws.{low_pos, low-ones_le, count_is}
use Rattle.bits.proofs.count.Goals as goal

pub nonzero_rem-part-2 : goal.nonzero_rem-part-2
nonzero_rem-part-2 c = low_pos _ (omega arith)

pub overflow_add-result : goal.overflow_add-result
overflow_add-result c = omega (arith, low-ones_le c.word-next.result (c.args.upto % 32) (omega arith))

pub returns : goal.returns
returns c = count_is _ _ c.ones_over.ensures.0 c.word-next.ensures
