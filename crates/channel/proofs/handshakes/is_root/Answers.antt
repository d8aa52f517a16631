use Rattle.std.proofs.Common.{arith, rules}
use Rattle.channel.proofs.HandshakeLaws.{root-short, root-same}
use Rattle.channel.proofs.handshakes.is_root.Goals.{then-datagram-lt32-via-then-datagram-lt32, then-datagram-lt32-via-else-datagram-lt32+then-datagram-at}
use Rattle.channel.proofs.handshakes.is_root.Goals as goal

pub returns-then-datagram-lt32 : goal.returns-then-datagram-lt32
returns-then-datagram-lt32 c = root-short c.args.root.words c.args.datagram.now c.args.at (search rules) (elim c.then-datagram-lt32.branch [ then-datagram-lt32-via-then-datagram-lt32 w ↦ omega (arith, w.if-datagram-lt32.true) | then-datagram-lt32-via-else-datagram-lt32+then-datagram-at w ↦ omega (arith, w.if-datagram-at.true) ])

pub returns : goal.returns
returns c = root-same _ _ _ (λ i. (c.type_inv.datagram i).fits) (omega arith) c.load.ensures c.same.ensures
