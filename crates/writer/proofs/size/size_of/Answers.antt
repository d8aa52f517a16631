use native.Mathlib.Omega.{arith}
use Rattle.writer.specs.Steps.{size_of}
use Rattle.writer.proofs.SizeLaws.{data_in}
use Rattle.writer.proofs.size.size_of.Goals as goal

pub overflow_add-result-in-Data-2 : goal.overflow_add-result-in-Data-2
overflow_add-result-in-Data-2 c = omega (arith, c.named_size-named.ensures.2, data_in _ _ c.requires c.in-Data.is)

pub returns-in-Data-clause-size : goal.returns-in-Data-clause-size
unfolding size_of
returns-in-Data-clause-size c = (rw c.in-Data.is (omega (arith, c.named_size-named.ensures.0)), omega (arith, c.named_size-named.ensures.2, data_in _ _ c.requires c.in-Data.is))
