use Rattle.std.proofs.Common.{arith}
use borrow.Author.Tests.{ne_eqb}
use Rattle.table.specs.Words.{phase_of}
use Rattle.table.proofs.words.PhaseFromU32.from.Goals as goal

pub returns-in-1 : goal.returns-in-1
unfolding phase_of
returns-in-1 c = rw c.in-1.is

pub returns-in-2 : goal.returns-in-2
unfolding phase_of
returns-in-2 c = rw c.in-2.is

pub returns-in_default : goal.returns-in_default
unfolding phase_of
returns-in_default c = rw (ne_eqb c.args.x 1 (omega arith), ne_eqb c.args.x 2 (omega arith))
