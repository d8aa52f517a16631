use Rattle.held.proofs.IntervalLaws.{Within}
use Rattle.held.proofs.interval.height_within.Given as goal

abbrev pub invariant-loop-h : goal.invariant-loop-h
invariant-loop-h l = Within l.h l.c l.interval
