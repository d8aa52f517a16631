use native.Mathlib.Omega.{arith}
use mathlib.Core.Path.{sym}
use Rattle.bits.proofs.RowLaws.{test_is, bit_at-past}
use Rattle.bits.proofs.test.Goals as goal

pub returns-then-w-ws : goal.returns-then-w-ws
returns-then-w-ws c = test_is c.args.ws.now c.args.i

pub returns-else-w-ws : goal.returns-else-w-ws
returns-else-w-ws c = sym (bit_at-past c.args.ws.now c.args.i (omega arith))
