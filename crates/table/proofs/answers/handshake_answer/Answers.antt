use native.Mathlib.Omega.{arith}
use Rattle.std.proofs.Common.{◌≡◌, Err, rules}
use mathlib.Core.Path.{refl, sym, ap, ◌∙◌}
use mathlib.Core.Bool.{not}
use borrow.Author.Tests.{eq-eqb, ne_eqb}
use Rattle.table.specs.declared.rows.Row.{Row}
use Rattle.table.specs.Answers.{row_answer}
use Rattle.table.proofs.AnswerLaws.{place-found, place-none, row-found, handshake-other, handshake-new, handshake-lost, handshake-found}
use Rattle.table.proofs.answers.handshake_answer.Goals as goal

pub returns-then-not-ours-clause-answer : goal.returns-then-not-ours-clause-answer
returns-then-not-ours-clause-answer c = (sym (handshake-other _ _ _ _ _ c.if-destination-eq0.true (ap not c.if-not-ours.true)), refl)

pub returns-then-destination-eq0-clause-answer : goal.returns-then-destination-eq0-clause-answer
returns-then-destination-eq0-clause-answer c =
    let t = c.open_answer.ensures.answer in
    (t.0 ∙ sym (handshake-new _ _ _ _ _ c.if-destination-eq0.true (ap not c.if-not-ours.false)), t.1)

pub returns-then-destination-eq0-clause-row : goal.returns-then-destination-eq0-clause-row
returns-then-destination-eq0-clause-row c = rw (eq-eqb _ _ c.if-destination-eq0.true) c.open_answer.ensures.row

pub returns-in_default-clause-answer : goal.returns-in_default-clause-answer
returns-in_default-clause-answer c = (sym (handshake-lost _ _ _ _ _ c.if-destination-eq0.false (place-none _ (sym c.in_default.is ∙ c.row_of.ensures))), refl)

pub returns-in_err-row_answer-clause-answer : goal.returns-in_err-row_answer-clause-answer
returns-in_err-row_answer-clause-answer c =
    let e = sym c.in-Some.is ∙ c.row_of.ensures in
    let t = place-found _ _ e in
    let found = row-found _ _ _ _ e c.row_at.ensures in
    let same : c.from_residual.result ≡ Err c.in_err-row_answer.field-0.0 = search rules in
    let h = c.in_err-row_answer.ensures in
    rw same (h.0 ∙ ap (λ (r : Row). row_answer r c.args.source c.args.ours) found ∙ sym (handshake-found _ _ _ _ _ c.if-destination-eq0.false (omega arith)), h.1)

pub returns-clause-answer : goal.returns-clause-answer
returns-clause-answer c =
    let e = sym c.in-Some.is ∙ c.row_of.ensures in
    let t = place-found _ _ e in
    let found = row-found _ _ _ _ e c.row_at.ensures in
    (c.in_ok-row_answer.ensures.0 ∙ ap (λ (r : Row). row_answer r c.args.source c.args.ours) found ∙ sym (handshake-found _ _ _ _ _ c.if-destination-eq0.false (omega arith)), refl)

pub returns-clause-row : goal.returns-clause-row
returns-clause-row c =
    let t = place-found _ _ (sym c.in-Some.is ∙ c.row_of.ensures) in
    (rw (ne_eqb _ _ c.if-destination-eq0.false) t.0, t.1)
