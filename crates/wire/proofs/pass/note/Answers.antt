use mathlib.Core.Path.{refl}
use Rattle.wire.proofs.LayoutLaws.{note-seen, note-new}
use Rattle.wire.proofs.pass.note.Goals as goal

pub returns-then-seen : goal.returns-then-seen
returns-then-seen c = note-seen _ _ _ _ _ _ _ c.seen.ensures c.if-seen.true refl

pub returns : goal.returns
returns c = note-new _ _ _ _ _ _ _ c.seen.ensures c.if-seen.false
