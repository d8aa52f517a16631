use Rattle.base.proofs.OutLaws.{nameless}
use Rattle.channel.proofs.Promise.{world_of, build_nameless}
use Rattle.loader.proofs.CallLaws.{build-under}
use Rattle.loader.proofs.starting.ppspp_build.Goals as goal

pub returns : goal.returns
returns c =
    let w = world_of c.args.state.now c.args.chunks.now c.args.map.now c.args.hashes.now c.args.trusted.now c.args.has.now c.args.wants.now c.args.reply.now in
    build-under w c.args.order.now c.args.content.now c.read-under.ensures (rw c.number.ensures (nameless (build_nameless w _ _) c.build-built.ensures))
