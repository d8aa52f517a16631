use Prim.Native.Nat.{◌+◌}
use Rattle.replies.proofs.SendingLaws.{DoneFrom}
use Rattle.replies.proofs.put_hashes.Given as goal

abbrev pub invariant-loop-h : goal.invariant-loop-h
invariant-loop-h l = DoneFrom l.hashes l.n l.c l.initial.writer l.writer (l.h + 1)
