use Rattle.tree.specs.Pack.{levels}
use Rattle.tree.proofs.Below.{sent_below}
use Rattle.tree.proofs.StepLaws.{LeftBelow}
use Rattle.tree.proofs.peaks.sent.Given as goal

-- What the heights below h add, listed from place k on, gives the room with all that goes out.
abbrev pub invariant-loop-h : goal.invariant-loop-h
invariant-loop-h l = LeftBelow (sent_below l.n l.c) (levels l.n) l.initial.room l.room l.k l.h
