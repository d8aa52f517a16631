use native.Mathlib.Omega.{arith}
use mathlib.Core.Path.{◌∙◌}
use Rattle.writer.proofs.AnswerLaws.{begin-refused, begin-done}
use Rattle.writer.proofs.WriterLaws.{be32_bytes, front_word}
use Rattle.writer.proofs.add.begin.Goals as goal

pub returns-then-room-lt-MAX_SIZE : goal.returns-then-room-lt-MAX_SIZE
returns-then-room-lt-MAX_SIZE c = begin-refused c.args.room.now c.args.destination c.if-room-lt-MAX_SIZE.true

pub returns : goal.returns
returns c = begin-done c.args.room.now c.args.destination c.if-room-lt-MAX_SIZE.false (front_word _ _ (omega arith) (c.copy_from_slice.ensures.after ∙ c.to_be_bytes.ensures ∙ be32_bytes c.args.destination))
