use Rattle.bits.specs.Bits.{clear_range}
use Rattle.bits.specs.Steps.{change_range}
use Rattle.bits.proofs.clear_range.Goals as goal

pub returns : goal.returns
unfolding clear_range change_range
returns c = c.change_range.ensures
