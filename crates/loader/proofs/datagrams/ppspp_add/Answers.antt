use Rattle.base.proofs.OutLaws.{nameless}
use Rattle.channel.proofs.Promise.{adding_nameless}
use Rattle.loader.proofs.datagrams.ppspp_add.Goals as goal

pub returns : goal.returns
returns c =
    rw (c.number.ensures, c.length.ensures, ← c.from_numbers-m.ensures)
    (nameless (adding_nameless c.args.addressing c.args.reply.now c.args.len c.from_numbers-m.result c.args.bytes.now) c.add-added.ensures)
