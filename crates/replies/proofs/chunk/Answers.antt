use native.Mathlib.Omega.{arith}
use mathlib.Core.Path.{refl}
use borrow.Author.Rules.{rules}
use Rattle.wire.proofs.Promise.{place_most}
use Rattle.writer.proofs.Promise.{size32, chunk-nameable, then_same}
use Rattle.replies.proofs.SendingLaws.{sent-long}
use Rattle.replies.proofs.ReplyLaws.{chunk-done}
use Rattle.replies.proofs.chunk.Goals as goal

pub put_hashes-requires-clause-behind : goal.put_hashes-requires-clause-behind
put_hashes-requires-clause-behind c = omega (arith, c.requires, size32 c.args.destination)

pub put_data-requires-clause-free : goal.put_data-requires-clause-free
put_data-requires-clause-free c = omega (arith, c.requires, size32 c.args.destination, place_most c.put_hashes.new.writer.format, sent-long c.begin-writer.result.format c.args.hashes.now c.args.n c.args.c c.requires.n_bound)

pub put_data-requires-clause-named : goal.put_data-requires-clause-named
put_data-requires-clause-named c = chunk-nameable _ _ (omega (arith, c.requires))

pub returns : goal.returns
returns c = let e = chunk-done c.args.destination refl c.begin-writer.ensures.begun _ _ _ _ _ c.put_hashes.ensures c.put_data.ensures in (e.0, then_same e.1 (search rules))
