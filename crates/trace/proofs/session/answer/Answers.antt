use Rattle.std.proofs.Common.{◌∙◌}
use Rattle.trace.proofs.SessionLaws.{at_first, at-later, at-over}
use Rattle.trace.proofs.session.answer.Goals as goal

pub returns-in-First-clause-answered : goal.returns-in-First-clause-answered
returns-in-First-clause-answered c = c.first_line.ensures.answered ∙ at_first _ _ c.in-First.is

pub returns-in-Later-clause-answered : goal.returns-in-Later-clause-answered
returns-in-Later-clause-answered c = c.later_line.ensures.answered ∙ at-later _ _ c.in-Later.is

pub returns-in-Over-clause-answered : goal.returns-in-Over-clause-answered
returns-in-Over-clause-answered c = at-over _ _ _ c.in-Over.is
