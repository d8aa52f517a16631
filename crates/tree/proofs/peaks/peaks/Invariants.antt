use Rattle.tree.specs.Pack.{levels}
use Rattle.tree.proofs.Below.{peaks_below}
use Rattle.tree.proofs.StepLaws.{LeftBelow}
use Rattle.tree.proofs.peaks.peaks.Given as goal

-- The peaks of the heights below h, listed from place k on, give the room with all of them.
abbrev pub invariant-loop-h : goal.invariant-loop-h
invariant-loop-h l = LeftBelow (peaks_below l.n) (levels l.n) l.initial.room l.room l.k l.h
