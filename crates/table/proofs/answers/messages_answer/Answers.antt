use native.Mathlib.Omega.{arith}
use mathlib.Core.Path.{refl, sym, ◌∙◌}
use Rattle.table.proofs.AnswerLaws.{place-found, place-none, found-open, messages-zero, messages-lost, messages-alive, messages-open, messages-early}
use Rattle.table.proofs.answers.messages_answer.Goals as goal
use Rattle.table.proofs.answers.messages_answer.Goals.{else-not-keepalive-via-then-not-keepalive+else-not-is_open, else-not-keepalive-via-else-not-keepalive}

pub returns-then-destination-eq0-clause-answer : goal.returns-then-destination-eq0-clause-answer
returns-then-destination-eq0-clause-answer c = (sym (messages-zero _ _ _ c.if-destination-eq0.true), refl)

pub returns-in_default-clause-answer : goal.returns-in_default-clause-answer
returns-in_default-clause-answer c = (sym (messages-lost _ _ _ c.if-destination-eq0.false (place-none _ (sym c.in_default.is ∙ c.row_of.ensures))), refl)

pub returns-then-not-is_open-clause-answer : goal.returns-then-not-is_open-clause-answer
returns-then-not-is_open-clause-answer c =
    let e = sym c.in-Some.is ∙ c.row_of.ensures in
    let t = place-found _ _ e in
    let o = found-open _ _ _ _ e c.row_at.ensures c.is_open.ensures c.if-not-is_open.true in
    (sym (messages-early _ _ _ c.if-destination-eq0.false (omega arith) c.if-not-keepalive.true o), refl)

pub returns-clause-answer : goal.returns-clause-answer
returns-clause-answer c =
    let e = sym c.in-Some.is ∙ c.row_of.ensures in
    let t = place-found _ _ e in
    elim c.else-not-keepalive.branch [
      | else-not-keepalive-via-then-not-keepalive+else-not-is_open w ↦
          (sym (messages-open _ _ _ c.if-destination-eq0.false (omega arith) w.if-not-keepalive.true (found-open _ _ _ _ e w.row_at.ensures w.is_open.ensures w.if-not-is_open.false)), refl)
      | else-not-keepalive-via-else-not-keepalive w ↦ (sym (messages-alive _ _ _ c.if-destination-eq0.false (omega arith) w.if-not-keepalive.false), refl)
    ]
