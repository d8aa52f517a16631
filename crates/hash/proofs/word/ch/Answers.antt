use Rattle.hash.specs.Word.{Ch}
use Rattle.hash.proofs.Choice.{ch_is}
use Rattle.hash.proofs.word.ch.Goals as goal

pub returns : goal.returns
unfolding Ch
returns c = ch_is 32 _ _ _ c.ranges.x.fits c.ranges.y.fits c.ranges.z.fits
