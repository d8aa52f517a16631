use Rattle.std.proofs.Common.{sym, ◌∙◌}
use Rattle.trace.proofs.SessionLaws.{order-none, order-taken}
use Rattle.trace.proofs.first.order_in.Goals as goal

pub returns-then-not-takes_length : goal.returns-then-not-takes_length
returns-then-not-takes_length c = order-none c.args.frame.now c.load32-length.ensures (sym c.takes_length.ensures ∙ c.if-not-takes_length.true)

pub returns : goal.returns
returns c = order-taken c.args.frame.now c.load32-length.ensures (sym c.takes_length.ensures ∙ c.if-not-takes_length.false) c.load.ensures
