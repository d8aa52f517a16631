use Rattle.std.proofs.Common.{◌≡◌}
use Rattle.hash.proofs.RoundLaws.{runs}
use Rattle.hash.proofs.ScheduleLaws.{row_of}
use Rattle.hash.proofs.block.compress_words.Given as goal

abbrev pub invariant-loop-row : goal.invariant-loop-row
invariant-loop-row l = (l.s.variables.words ≡ runs l.row-index l.initial.s.variables.words (row_of l.initial.s.schedule)) × (l.s.schedule ≡ row_of l.initial.s.schedule l.row-index)
