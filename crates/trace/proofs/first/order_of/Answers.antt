use Rattle.std.proofs.Common.{◌≡◌, None, ◌∙◌, rules}
use Rattle.trace.proofs.SessionLaws.{order-frame, order-bad}
use Rattle.trace.proofs.first.order_of.Goals as goal

pub returns-in_err-read : goal.returns-in_err-read
returns-in_err-read c =
    let none : c.from_residual.result ≡ None = search rules in
    none ∙ order-bad _ (search rules) c.read.ensures c.in_err-read.was

pub returns : goal.returns
returns c = c.order_in.ensures ∙ order-frame _ (search rules) c.read.ensures c.in_ok-read.was
