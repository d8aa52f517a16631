use Rattle.tree.proofs.StepLaws.{peak-unless}
use Rattle.tree.proofs.peaks.is_peak.Goals as goal

pub returns-then-inside : goal.returns-then-inside
returns-then-inside c = peak-unless c.args.n c.args.c c.args.h c.inside.ensures c.if-inside.true c.inside-then-inside.ensures
