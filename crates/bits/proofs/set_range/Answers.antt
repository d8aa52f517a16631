use Rattle.bits.specs.Bits.{set_range}
use Rattle.bits.specs.Steps.{change_range}
use Rattle.bits.proofs.set_range.Goals as goal

pub returns : goal.returns
unfolding set_range change_range
returns c = c.change_range.ensures
