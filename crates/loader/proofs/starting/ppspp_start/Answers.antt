use Rattle.base.proofs.OutLaws.{nameless}
use Rattle.channel.proofs.Promise.{world_of, start_nameless}
use Rattle.loader.proofs.CallLaws.{start_under}
use Rattle.loader.proofs.starting.ppspp_start.Goals as goal

pub returns : goal.returns
returns c =
    let w = world_of c.args.state.now c.args.chunks.now c.args.map.now c.args.hashes.now c.args.trusted.now c.args.has.now c.args.wants.now c.args.reply.now in
    start_under w c.args.order.now c.read-under.ensures (rw c.number.ensures (nameless (start_nameless w _) c.start-started.ensures))
