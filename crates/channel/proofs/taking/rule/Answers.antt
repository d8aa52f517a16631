use Rattle.channel.specs.Lent.{world_in}
use Rattle.channel.proofs.TakeLaws.{ruled-plain}
use Rattle.channel.proofs.taking.rule.Goals as goal

pub returns-then-front-datagram-clause-ruled : goal.returns-then-front-datagram-clause-ruled
returns-then-front-datagram-clause-ruled c = ruled-plain (world_in c.args.rooms.now) c.args.clock c.args.id c.args.datagram.now c.requires.ordered.format _ c.requires.fronted c.if-front-datagram.true
