use native.Mathlib.Omega.{arith}
use mathlib.Core.Path.{refl}
use borrow.Author.Rules.{rules}
use Rattle.wire.proofs.Promise.{place_most}
use Rattle.writer.proofs.Promise.{size32, then_same}
use Rattle.replies.proofs.ReplyLaws.{ack-done}
use Rattle.replies.proofs.ack.Goals as goal

pub put_ack-requires-clause-free : goal.put_ack-requires-clause-free
put_ack-requires-clause-free c = omega (arith, c.requires.max_size_in_bounds, size32 c.args.destination, place_most c.begin-writer.result.format)

pub returns : goal.returns
returns c = let e = ack-done c.args.destination refl c.begin-writer.ensures.begun _ _ _ c.put_ack.ensures in (e.0, then_same e.1 (search rules))
