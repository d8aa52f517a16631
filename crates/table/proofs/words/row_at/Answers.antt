use mathlib.Core.Path.{refl}
use native.Mathlib.Omega.{arith}
use Rattle.table.proofs.RowWordLaws.{row-at-in, row-at-out}
use Rattle.table.proofs.words.row_at.Goals as goal

pub returns-then-i-lt-ROWS : goal.returns-then-i-lt-ROWS
returns-then-i-lt-ROWS c = row-at-in _ _ (omega arith) c.row_in.ensures

pub returns-else-i-lt-ROWS : goal.returns-else-i-lt-ROWS
returns-else-i-lt-ROWS c = row-at-out _ _ (omega arith) refl
