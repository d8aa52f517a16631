use native.Mathlib.Omega.{arith}
use lib.Seq.{set_out}
use mathlib.Core.Path.{sym}
use Rattle.table.proofs.words.put_word.Goals as goal

pub returns-else-at-words : goal.returns-else-at-words
returns-else-at-words c = sym (set_out _ _ _ (omega arith))
