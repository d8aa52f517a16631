use Rattle.base.proofs.OutLaws.{nameless}
use Rattle.writer.proofs.Promise.{begin_nameless}
use Rattle.loader.proofs.datagrams.ppspp_begin.Goals as goal

pub returns : goal.returns
returns c = rw (c.number.ensures, c.length.ensures) (nameless (begin_nameless c.args.reply.now c.args.destination) c.begin-begun.ensures)
