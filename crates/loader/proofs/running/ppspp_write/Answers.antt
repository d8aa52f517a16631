use Rattle.base.proofs.OutLaws.{nameless}
use Rattle.channel.proofs.Promise.{world_of, write_nameless}
use Rattle.loader.proofs.running.ppspp_write.Goals as goal

pub returns : goal.returns
returns c =
    let w = world_of c.args.state.now c.args.chunks.now c.args.map.now c.args.hashes.now c.args.trusted.now c.args.has.now c.args.wants.now c.args.reply.now in
    rw (c.number.ensures, c.length.ensures) (nameless (write_nameless w c.args.id c.args.chunk c.args.clock) c.write-sent.ensures)
