use mathlib.Core.Path.{refl, sym, ◌∙◌}
use Rattle.table.proofs.AnswerLaws.{place-some, place-lost, open-zero, open-used, open_new}
use Rattle.table.proofs.answers.open_answer.Goals as goal
use Rattle.table.proofs.answers.open_answer.Goals.{then-id-eq0-via-then-id-eq0, then-id-eq0-via-else-id-eq0+then-is_some}

pub returns-then-id-eq0-clause-answer : goal.returns-then-id-eq0-clause-answer
returns-then-id-eq0-clause-answer c = elim c.then-id-eq0.branch [
  | then-id-eq0-via-then-id-eq0 w ↦ (sym (open-zero _ _ w.if-id-eq0.true), refl)
  | then-id-eq0-via-else-id-eq0+then-is_some w ↦ (sym (open-used _ _ w.if-id-eq0.false (place-some _ _ w.row_of.ensures (sym w.is_some.ensures ∙ w.if-is_some.true))), refl)
]

pub returns-clause-answer : goal.returns-clause-answer
returns-clause-answer c =
    let used = place-lost _ _ c.row_of.ensures (sym c.is_some.ensures ∙ c.if-is_some.false) in
    rw c.ok_or.ensures.value (open_new _ _ c.if-id-eq0.false used _ c.lowest_free.ensures)
