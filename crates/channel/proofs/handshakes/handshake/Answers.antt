use Rattle.std.proofs.Common.{◌≡◌, ap, rules}
use Rattle.channel.specs.World.{beside, order_root}
use Rattle.channel.specs.Lent.{rooms_in, channels_in}
use Rattle.channel.specs.Take.{ours, handshake_taken}
use Rattle.channel.proofs.HandshakeLaws.{handshake-opens, handshake-changes}
use Rattle.channel.proofs.handshakes.handshake.Goals as goal

pub returns-in_err-i-clause-out : goal.returns-in_err-i-clause-out
unfolding handshake_taken
returns-in_err-i-clause-out c = search rules

pub occupy-requires-clause-i_value : goal.occupy-requires-clause-i_value
occupy-requires-clause-i_value c = rw c.if-to-eq0.true at c.in_ok-i.ensures.row

pub returns-then-to-eq0-clause-out : goal.returns-then-to-eq0-clause-out
returns-then-to-eq0-clause-out c = let o : c.is_ours-ours.result ≡ ours (order_root c.args.rooms.now.state.now) c.args.datagram.now c.args.options = cc in ap (beside (rooms_in c.args.rooms.now)) (handshake-opens (channels_in c.args.rooms.now) c.args.id c.args.datagram.now c.args.source c.args.options c.load32-to.ensures o c.in_ok-i.ensures.answer.0 c.if-to-eq0.true c.occupy.ensures)

pub returns-clause-out : goal.returns-clause-out
returns-clause-out c = let o : c.is_ours-ours.result ≡ ours (order_root c.args.rooms.now.state.now) c.args.datagram.now c.args.options = cc in ap (beside (rooms_in c.args.rooms.now)) (handshake-changes (channels_in c.args.rooms.now) c.args.id c.args.datagram.now c.args.source c.args.options c.load32-to.ensures o c.in_ok-i.ensures.answer.0 c.if-to-eq0.false c.in_ok-i.ensures.row.0 (search rules) c.put_row.ensures)
