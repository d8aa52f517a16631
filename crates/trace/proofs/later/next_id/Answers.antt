use Rattle.std.proofs.Common.{sym}
use Rattle.trace.proofs.SessionLaws.{id-opened, id_other}
use Rattle.trace.proofs.later.next_id.Goals as goal

pub returns-then-opened : goal.returns-then-opened
returns-then-opened c = id-opened c.args.id 0 c.args.datagram.now (sym c.if-opened.ensures)

pub returns-else-opened : goal.returns-else-opened
returns-else-opened c = id_other c.args.id 0 c.args.datagram.now (sym c.if-opened.ensures)
