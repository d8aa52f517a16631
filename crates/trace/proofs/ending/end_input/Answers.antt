use Rattle.std.proofs.Common.{◌∙◌}
use Rattle.trace.proofs.StreamLaws.{input_none, input-line}
use Rattle.trace.proofs.ending.end_input.Goals as goal

pub returns-then-len-eq0-clause-done : goal.returns-then-len-eq0-clause-done
returns-then-len-eq0-clause-done c = input_none _ c.if-len-eq0.true

pub returns-clause-done : goal.returns-clause-done
returns-clause-done c = c.end_line.ensures.done 0 ∙ input-line _ c.if-len-eq0.false
