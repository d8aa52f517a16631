use Rattle.std.proofs.Common.{arith}
use Rattle.verdict.specs.Steps.{trusted_in}
use Rattle.verdict.proofs.LoopLaws.{every-none, every-next, every-not, every-end}
use Rattle.verdict.proofs.peaks.all_trusted.Goals as goal

pub loop-h-init : goal.loop-h-init
loop-h-init c = every-none (trusted_in c.args.trusted.now) c.args.n

pub returns-then-peak_untrusted : goal.returns-then-peak_untrusted
returns-then-peak_untrusted c = every-not (trusted_in c.args.trusted.now) c.args.n c.loop-h.h c.peak_untrusted.ensures c.if-peak_untrusted.true (omega arith)

pub loop-h-preserved : goal.loop-h-preserved
loop-h-preserved c = every-next (trusted_in c.args.trusted.now) c.args.n c.loop-h.h c.peak_untrusted.ensures c.if-peak_untrusted.false c.loop-h.invariant

pub returns : goal.returns
returns c = every-end (trusted_in c.args.trusted.now) c.args.n c.loop-h.h (omega arith) c.loop-h.invariant
