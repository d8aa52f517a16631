use Rattle.std.proofs.Common.{ℕ, ◌/◌, ◌^◌, ap}
use lib.Bits.{bit_xor}
use Rattle.hash.specs.Word.{σ1}
use Rattle.hash.proofs.Rotation.{shared_rotation}
use Rattle.hash.proofs.word.small_sigma1.Goals as goal

pub returns : goal.returns
unfolding σ1
returns c = ap (λ (r : ℕ). bit_xor r (c.args.x / 2 ^ 10)) (shared_rotation 2 17 13 _ c.ranges.x.fits c.rotate_right.ensures c.rotate_right-2.ensures)
