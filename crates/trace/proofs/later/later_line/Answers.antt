use Rattle.std.proofs.Common.{◌∙◌}
use Rattle.trace.proofs.SessionLaws.{frame-fits, frame-length, frame-clock, frame-taken, no-frame}
use Rattle.trace.proofs.later.later_line.Goals as goal

pub slice_bounds-frame-end : goal.slice_bounds-frame-end
slice_bounds-frame-end c = frame-fits _ c.read.ensures c.in-Some.is

pub slice_bounds-take-end : goal.slice_bounds-take-end
slice_bounds-take-end c = frame-length _ c.read.ensures c.in-Some.is

pub take-requires : goal.take-requires
take-requires c = frame-clock _ c.read.ensures c.in-Some.is

pub returns-in-Some-clause-answered : goal.returns-in-Some-clause-answered
returns-in-Some-clause-answered c = c.take.ensures.answered ∙ frame-taken _ c.read.ensures c.in-Some.is _

pub returns-in-None-clause-answered : goal.returns-in-None-clause-answered
returns-in-None-clause-answered c = no-frame _ c.read.ensures _ c.in-None.is _
