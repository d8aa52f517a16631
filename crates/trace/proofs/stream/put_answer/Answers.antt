use Rattle.std.proofs.Common.{◌∙◌}
use Rattle.trace.proofs.StreamLaws.{say-nothing, say}
use Rattle.trace.proofs.stream.put_answer.Goals as goal

pub returns-in-Some-clause-appended : goal.returns-in-Some-clause-appended
returns-in-Some-clause-appended c = c.answer_line.ensures.appended ∙ say _ _ _ c.in-Some.is c.min-len.ensures

pub returns-in_default-clause-appended : goal.returns-in_default-clause-appended
returns-in_default-clause-appended c = say-nothing _ _ _ c.in_default.is
