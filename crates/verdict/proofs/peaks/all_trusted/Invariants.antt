use Rattle.std.proofs.Common.{◌≡◌, true}
use Rattle.tree.specs.Verdicts.{every}
use Rattle.tree.proofs.Below.{peaks_below}
use Rattle.verdict.specs.Steps.{trusted_in}
use Rattle.verdict.proofs.peaks.all_trusted.Given as goal

abbrev pub invariant-loop-h : goal.invariant-loop-h
invariant-loop-h l = true ≡ every (trusted_in l.trusted) (peaks_below l.n l.h)
