use Rattle.verdict.specs.Room.{filler}
use Rattle.verdict.proofs.IntegrityLaws.{got_none}
use Rattle.verdict.proofs.integrity.Integrity.get.Goals as goal

pub returns-in-None : goal.returns-in-None
unfolding filler
returns-in-None c = got_none _ _ c.zero.ensures c.in-None.ensures
