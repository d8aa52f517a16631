use Rattle.std.proofs.Common.{◌≡◌}
use Rattle.channel.specs.World.{chunk_count}
use Rattle.channel.proofs.DataLaws.{ack-named}
use Rattle.channel.proofs.messages.acknowledge.Goals as goal

pub ack-requires-clause-last_value : goal.ack-requires-clause-last_value
ack-requires-clause-last_value c = let e : c.chunk_count-n.result ≡ chunk_count c.args.state.now = cc in ack-named c.args.state.now c.args.map.now c.args.came.chunk c.requires.ordered.format e c.complete_interval-named.ensures c.requires.ordered.length c.requires.c_bound.0 c.requires.c_bound.1
