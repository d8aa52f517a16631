use mathlib.Core.Path.{refl}
use lib.ListN.{length-set}
use Rattle.wire.proofs.PlacedLaws.{placed_cell}
use Rattle.writer.proofs.place.Writer.byte.Goals as goal

pub returns : goal.returns
returns c = record { room = refl; size = length-set _ _ _; format = refl; bytes = placed_cell _ _ _; at = refl }
