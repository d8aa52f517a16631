use Rattle.verdict.specs.Room.{hash_in}
use Rattle.verdict.specs.Integrity.{integrity_in}
use Rattle.verdict.specs.Steps.{got_by}
use Rattle.store.specs.Nodes.{Kept, Puts}
use Rattle.store.specs.Steps.{put_path}
use Rattle.store.proofs.nodes.Nodes.put_path.Given as goal

abbrev pub invariant-loop-h : goal.invariant-loop-h
invariant-loop-h l = record {
  kept : Kept l.initial.self l.self;
  puts : Puts (λ put. put_path put (hash_in l.scratch) (got_by (integrity_in l.integrity)) l.c l.h) l.initial.self l.self;
}
