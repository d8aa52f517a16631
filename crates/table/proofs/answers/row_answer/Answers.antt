use mathlib.Core.Path.{◌≡◌, refl, sym, ap, ◌∙◌}
use mathlib.Core.Bool.{Bool}
use Rattle.base.specs.Pick.{pick}
use Rattle.table.specs.Answers.{row_answer}
use Rattle.table.proofs.AnswerLaws.{row_closes, row_moved, row-early, row_same, row-called}
use Rattle.table.proofs.answers.row_answer.Goals as goal
use Rattle.table.proofs.answers.row_answer.Goals.{else-open-2-via-then-open-2+else-source-row, else-open-2-via-else-open-2}

pub returns-then-open : goal.returns-then-open
returns-then-open c = (sym (row_closes _ _ _ (sym c.is_open-open.ensures ∙ c.if-open.true) c.if-source-eq0.true), refl)

pub returns-else-open : goal.returns-else-open
returns-else-open c = (sym (row-early _ _ _ (sym c.is_open-open.ensures ∙ c.if-open.false) c.if-source-eq0.true), refl)

pub returns-then-source-row : goal.returns-then-source-row
returns-then-source-row c = (sym (row_moved _ _ _ (sym c.is_open-open.ensures ∙ c.if-open-2.true) c.if-source-eq0.false c.if-source-row.true), refl)

pub returns-then-ours : goal.returns-then-ours
returns-then-ours c =
    let same : row_answer c.args.row c.args.source c.args.ours ≡ pick c.args.ours 0 4 = elim c.else-open-2.branch [
      | else-open-2-via-then-open-2+else-source-row w ↦ row_same _ _ _ (sym c.is_open-open.ensures ∙ w.if-open-2.true) c.if-source-eq0.false w.if-source-row.false
      | else-open-2-via-else-open-2 w ↦ row-called _ _ _ (sym c.is_open-open.ensures ∙ w.if-open-2.false) c.if-source-eq0.false
    ] in
    (sym (same ∙ ap (λ (b : Bool). pick b 0 4) c.if-ours.true), refl)

pub returns-else-ours : goal.returns-else-ours
returns-else-ours c =
    let same : row_answer c.args.row c.args.source c.args.ours ≡ pick c.args.ours 0 4 = elim c.else-open-2.branch [
      | else-open-2-via-then-open-2+else-source-row w ↦ row_same _ _ _ (sym c.is_open-open.ensures ∙ w.if-open-2.true) c.if-source-eq0.false w.if-source-row.false
      | else-open-2-via-else-open-2 w ↦ row-called _ _ _ (sym c.is_open-open.ensures ∙ w.if-open-2.false) c.if-source-eq0.false
    ] in
    (sym (same ∙ ap (λ (b : Bool). pick b 0 4) c.if-ours.false), refl)
