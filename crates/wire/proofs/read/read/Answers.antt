use Rattle.wire.proofs.ReadLaws.{step_end, step_typed}
use Rattle.wire.proofs.read.read.Goals as goal

pub returns-then-datagram-at : goal.returns-then-datagram-at
returns-then-datagram-at c = step_end _ _ _ c.if-datagram-at.true

pub returns-in-Some : goal.returns-in-Some
returns-in-Some c = step_typed _ _ _ c.if-datagram-at.false c.in-Some.ensures

pub returns-in-None : goal.returns-in-None
returns-in-None c = step_typed _ _ _ c.if-datagram-at.false c.in-None.ensures
