use Rattle.hash.specs.Word.{Maj}
use Rattle.hash.proofs.Choice.{maj_is}
use Rattle.hash.proofs.word.maj.Goals as goal

pub returns : goal.returns
unfolding Maj
returns c = maj_is 32 _ _ _ c.ranges.x.fits c.ranges.y.fits c.ranges.z.fits
