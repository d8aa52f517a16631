use Rattle.std.proofs.Common.{ap₂}
use lib.Bits.{bit_xor}
use Rattle.hash.specs.Word.{Σ0}
use Rattle.hash.proofs.Rotation.{shared_rotation}
use Rattle.hash.proofs.word.big_sigma0.Goals as goal

pub returns : goal.returns
unfolding Σ0
returns c = ap₂ bit_xor (shared_rotation 11 2 19 _ c.ranges.x.fits c.rotate_right.ensures c.rotate_right-2.ensures) c.rotate_right-3.ensures
