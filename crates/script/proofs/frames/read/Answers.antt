use Rattle.std.proofs.Common.{sym, ◌∙◌, arith}
use Rattle.script.proofs.FrameLaws.{length_bounds, other_length, no_room, a-frame, other-character}
use Rattle.script.proofs.frames.read.Goals as goal
use Rattle.script.proofs.frames.read.Goals.{else-has_length-via-then-has_length+then-len-room+else-decode, else-has_length-via-then-has_length+else-len-room, else-has_length-via-else-has_length}

pub decode-requires-clause-digits_len : goal.decode-requires-clause-digits_len
decode-requires-clause-digits_len c = (length_bounds _ _ _ (sym c.has_length.ensures ∙ c.if-has_length.true)).2

pub returns-then-decode : goal.returns-then-decode
returns-then-decode c = a-frame _ _ _ _ (sym c.has_length.ensures ∙ c.if-has_length.true) (omega arith) c.decode.ensures.1 (sym c.decode.ensures.0 ∙ c.if-decode.true)

pub returns : goal.returns
returns c = elim c.else-has_length.branch [
  | else-has_length-via-then-has_length+then-len-room+else-decode w ↦ rw w.room-is (other-character _ _ _ _ (sym c.has_length.ensures ∙ w.if-has_length.true) (omega arith) w.decode.ensures.1 (sym w.decode.ensures.0 ∙ w.if-decode.false))
  | else-has_length-via-then-has_length+else-len-room w ↦ rw w.room-is (no_room _ _ _ _ (sym c.has_length.ensures ∙ w.if-has_length.true) (omega arith))
  | else-has_length-via-else-has_length w ↦ rw w.room-is (other_length _ _ _ _ (sym c.has_length.ensures ∙ w.if-has_length.false))
]
