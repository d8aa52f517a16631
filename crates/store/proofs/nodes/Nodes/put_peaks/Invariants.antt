use Rattle.verdict.specs.Integrity.{integrity_in}
use Rattle.verdict.specs.Steps.{got_by}
use Rattle.store.specs.Nodes.{Kept, Puts}
use Rattle.store.specs.Steps.{put_peaks}
use Rattle.store.proofs.nodes.Nodes.put_peaks.Given as goal

abbrev pub invariant-loop-h : goal.invariant-loop-h
invariant-loop-h l = record {
  kept : Kept l.initial.self l.self;
  puts : Puts (λ put. put_peaks put (got_by (integrity_in l.integrity)) l.n l.h) l.initial.self l.self;
}
