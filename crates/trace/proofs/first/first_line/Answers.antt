use Rattle.std.proofs.Common.{sym, refl, ◌∙◌}
use Rattle.base.proofs.OutLaws.{refusal_number}
use Rattle.trace.proofs.SessionLaws.{order-some, order-missing, not_started, started, refused}
use Rattle.trace.proofs.first.first_line.Goals as goal

pub returns-in_default-clause-answered : goal.returns-in_default-clause-answered
returns-in_default-clause-answered c =
    let bad = c.bad_first.ensures in
    rw (bad.0, bad.1, bad.2) (not_started _ _ _ (order-missing _ (sym c.in_default.is ∙ c.order_of.ensures)))

pub returns-in-Ok-clause-answered : goal.returns-in-Ok-clause-answered
returns-in-Ok-clause-answered c = started _ _ (order-some _ c.in-Some.ensures) c.in-Ok.ensures _ refl

pub returns-in-Err-clause-answered : goal.returns-in-Err-clause-answered
returns-in-Err-clause-answered c =
    let bad = c.bad_first-in-Err.ensures in
    rw (bad.0, bad.1, bad.2) (refused _ _ (order-some _ c.in-Some.ensures) c.in-Err.ensures _ (refusal_number _))
