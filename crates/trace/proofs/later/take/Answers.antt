use Rattle.base.proofs.OutLaws.{refusal_number}
use Rattle.trace.proofs.SessionLaws.{part, id-refused, took}
use Rattle.trace.proofs.later.take.Goals as goal

pub returns-in-Ok-clause-answered : goal.returns-in-Ok-clause-answered
returns-in-Ok-clause-answered c = took _ _ _ c.load64-clock.ensures (part 8 c.args.frame.now) c.in-Ok.ensures.out c.next_id.ensures

pub returns-in-Err-clause-answered : goal.returns-in-Err-clause-answered
returns-in-Err-clause-answered c =
    rw c.number.ensures
    (took _ _ _ c.load64-clock.ensures (part 8 c.args.frame.now) c.in-Err.ensures.out (id-refused _ _ _ (refusal_number _)))
