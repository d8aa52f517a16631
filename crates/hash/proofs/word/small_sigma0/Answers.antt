use Rattle.std.proofs.Common.{ℕ, ◌/◌, ◌^◌, ap}
use lib.Bits.{bit_xor}
use Rattle.hash.specs.Word.{σ0}
use Rattle.hash.proofs.Rotation.{shared_rotation}
use Rattle.hash.proofs.word.small_sigma0.Goals as goal

pub returns : goal.returns
unfolding σ0
returns c = ap (λ (r : ℕ). bit_xor r (c.args.x / 2 ^ 3)) (shared_rotation 11 7 14 _ c.ranges.x.fits c.rotate_right.ensures c.rotate_right-2.ensures)
