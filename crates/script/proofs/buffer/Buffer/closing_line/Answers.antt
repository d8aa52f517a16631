use Rattle.std.proofs.Common.{◌≡◌, ◌∙◌}
use Rattle.base.specs.Pick.{pick}
use Rattle.script.proofs.LineLaws.{closing}
use Rattle.script.proofs.buffer.Buffer.closing_line.Goals as goal
use Rattle.script.proofs.buffer.Buffer.closing_line.Goals.{then-whole, else-whole}

pub returns-clause-appended : goal.returns-clause-appended
returns-clause-appended c =
    let number : c.if-whole.answer_line ≡ pick c.args.whole 255 240 = elim c.if-whole.branch [ then-whole w ↦ rw w.if-whole.true w.answer_line-is | else-whole w ↦ rw w.if-whole.false w.answer_line-is ] in
    c.answer_line.ensures.appended ∙ rw c.to_be_bytes.ensures (closing _ _ c.args.whole _ number)
