use native.Mathlib.Omega.{arith}
use Rattle.bits.proofs.RowLaws.{change_is, change-past}
use Rattle.bits.proofs.change.Goals as goal

pub returns-then-w-ws : goal.returns-then-w-ws
returns-then-w-ws g c = change_is _ c.args.ws.now c.args.i c.change_word.ensures

pub returns-else-w-ws : goal.returns-else-w-ws
returns-else-w-ws g c = change-past _ c.args.ws.now c.args.i (omega arith)
