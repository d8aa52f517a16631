use mathlib.Core.Path.{refl}
use Rattle.writer.proofs.AnswerLaws.{handshake-behind}
use Rattle.writer.proofs.add.own_answer.Goals as goal

pub returns-then-len-ne-MIN_SIZE : goal.returns-then-len-ne-MIN_SIZE
returns-then-len-ne-MIN_SIZE c = rw c.in-Handshake.is (handshake-behind c.args.format c.args.destination c.args.len c.in-Handshake.source c.in-Handshake.options c.if-len-ne-MIN_SIZE.true, refl)
