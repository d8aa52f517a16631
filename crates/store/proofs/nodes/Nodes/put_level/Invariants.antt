use mathlib.Core.Path.{◌≡◌}
use Prim.Native.Nat.{◌/◌, ◌^◌}
use Rattle.store.specs.Nodes.{Kept, Puts}
use Rattle.store.specs.Building.{tree_of}
use Rattle.store.specs.Steps.{put_level}
use Rattle.store.proofs.nodes.Nodes.put_level.Given as goal

abbrev pub invariant-loop-k : goal.invariant-loop-k
invariant-loop-k l = record {
  count : l.count ≡ l.content.n / 2 ^ l.h;
  kept : Kept l.initial.self l.self;
  puts : Puts (λ put. put_level put (tree_of l.content.bytes.now) l.h l.k) l.initial.self l.self;
}
