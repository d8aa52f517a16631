use Rattle.store.specs.Nodes.{Kept, Puts}
use Rattle.store.specs.Building.{tree_of}
use Rattle.store.specs.Steps.{put_levels}
use Rattle.store.proofs.nodes.Nodes.put_levels.Given as goal

abbrev pub invariant-loop-h : goal.invariant-loop-h
invariant-loop-h l = record {
  kept : Kept l.initial.self l.self;
  puts : Puts (λ put. put_levels put (tree_of l.content.bytes.now) l.content.n l.h) l.initial.self l.self;
}
