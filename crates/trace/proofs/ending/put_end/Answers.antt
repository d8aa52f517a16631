use Rattle.std.proofs.Common.{◌∙◌}
use Rattle.trace.proofs.StreamLaws.{end-first, end_later, end-over}
use Rattle.trace.proofs.ending.put_end.Goals as goal

pub returns-in-First-clause-appended : goal.returns-in-First-clause-appended
returns-in-First-clause-appended c = c.answer_line.ensures.appended ∙ end-first _ _ _ c.in-First.is

pub returns-in-Over-clause-appended : goal.returns-in-Over-clause-appended
returns-in-Over-clause-appended c = end-over _ _ _ c.in-Over.is

pub returns-in-Ok-clause-appended : goal.returns-in-Ok-clause-appended
returns-in-Ok-clause-appended c = c.closing_line.ensures.appended ∙ end_later _ _ _ c.in-Later.is c.in-Ok.ensures

pub returns-in-Err-clause-appended : goal.returns-in-Err-clause-appended
returns-in-Err-clause-appended c = c.closing_line-in-Err.ensures.appended ∙ end_later _ _ _ c.in-Later.is c.in-Err.ensures
