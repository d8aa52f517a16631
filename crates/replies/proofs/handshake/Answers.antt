use native.Mathlib.Omega.{arith}
use mathlib.Core.Path.{refl}
use borrow.Author.Rules.{rules}
use Rattle.writer.proofs.Promise.{size32, then_same}
use Rattle.replies.proofs.ReplyLaws.{handshake_puts, handshake-done}
use Rattle.replies.proofs.handshake.Goals as goal

pub put_handshake-requires-clause-free : goal.put_handshake-requires-clause-free
put_handshake-requires-clause-free c = omega (arith, c.requires, size32 c.args.destination, (handshake_puts _ _ c.requires refl).0)

pub put_handshake-requires-clause-options_value : goal.put_handshake-requires-clause-options_value
put_handshake-requires-clause-options_value c = (handshake_puts _ _ c.requires (search rules)).1

pub returns : goal.returns
returns c = let e = handshake-done c.args.destination refl c.begin-writer.ensures.begun _ c.bytes.ensures c.put_handshake.ensures in (e.0, then_same e.1 (search rules))
