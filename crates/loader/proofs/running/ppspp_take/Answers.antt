use Rattle.std.proofs.Common.{rules}
use Rattle.channel.proofs.Promise.{world_of}
use Rattle.loader.proofs.CallLaws.{take_noded}
use Rattle.loader.proofs.running.ppspp_take.Goals as goal

pub returns : goal.returns
returns c =
    let w = world_of c.args.state.now c.args.chunks.now c.args.map.now c.args.hashes.now c.args.trusted.now c.args.has.now c.args.wants.now c.args.reply.now in
    let e = take_noded w c.args.clock c.args.id c.args.datagram.now c.take-taken.ensures.out c.node.ensures in
    search rules
