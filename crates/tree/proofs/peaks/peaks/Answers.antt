use Rattle.std.proofs.Common.{suc, arith}
use Rattle.tree.specs.Pack.{levels}
use Rattle.tree.specs.Peaks.{peaks}
use Rattle.tree.proofs.Below.{peaks_below}
use Rattle.tree.proofs.PeakLaws.{peaks_bits}
use Rattle.tree.proofs.StepLaws.{peaks-short, peaks-none, loop-begin, loop-few, loop-end, peaks-turn}
use Rattle.tree.proofs.peaks.peaks.Goals as goal

pub loop-h-init : goal.loop-h-init
loop-h-init c = loop-begin (peaks_below c.args.n) _ _ _ c.levels-h.ensures.0

pub put-k-requires : goal.put-k-requires
put-k-requires c = omega (arith, loop-few (peaks_below c.args.n) _ _ _ _ c.loop-h.h c.loop-h.invariant, peaks-short c.args.n (suc (levels c.args.n)))

pub loop-h-preserved : goal.loop-h-preserved
loop-h-preserved c = peaks-turn c.args.n _ _ c.loop-h.room c.loop-h.k c.loop-h.h (omega arith) c.loop-h.invariant c.sent_peak.ensures c.put-k.ensures

pub returns : goal.returns
returns c = loop-end (peaks_below c.args.n) _ _ _ _ c.loop-h.h (peaks c.args.n) (peaks-none c.args.n) (peaks_bits c.args.n) (omega arith) c.loop-h.invariant
