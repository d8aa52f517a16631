use native.Mathlib.Omega.{arith}
use Rattle.bits.specs.Bits.{row_words}
use Rattle.bits.proofs.row_words.Goals as goal

pub returns : goal.returns
unfolding row_words
returns c = omega arith
