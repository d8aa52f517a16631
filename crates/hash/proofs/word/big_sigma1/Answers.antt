use Rattle.std.proofs.Common.{ap₂}
use lib.Bits.{bit_xor}
use Rattle.hash.specs.Word.{Σ1}
use Rattle.hash.proofs.Rotation.{shared_rotation}
use Rattle.hash.proofs.word.big_sigma1.Goals as goal

pub returns : goal.returns
unfolding Σ1
returns c = ap₂ bit_xor (shared_rotation 5 6 21 _ c.ranges.x.fits c.rotate_right.ensures c.rotate_right-2.ensures) c.rotate_right-3.ensures
