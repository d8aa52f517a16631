use mathlib.Core.Path.{refl, ap₂}
use Prim.Native.Nat.{ℕ, ◌/◌}
use Rattle.std.proofs.Common.{rules}
use Rattle.store.specs.Building.{tree_of}
use Rattle.store.specs.Steps.{put_level}
use Rattle.store.proofs.BuildingLaws.{filled-level}
use Rattle.store.proofs.NodesLaws.{puts_then, level-more}
use Rattle.store.proofs.nodes.Nodes.put_level.Goals as goal

pub loop-k-init : goal.loop-k-init
unfolding put_level
loop-k-init c = record {
  count = ap₂ (λ (x y : ℕ). x / y) c.from.ensures c.pow2.ensures.0;
  kept = search rules;
  puts = record { hashes = refl; trusted = refl };
}

pub put_node-requires-clause-filled : goal.put_node-requires-clause-filled
put_node-requires-clause-filled c =
    rw c.loop-k.invariant.puts.hashes (filled-level c.args.content.bytes.now c.args.content.n c.args.h c.loop-k.k c.args.self.now.hashes.now c.requires.filled)

pub loop-k-preserved : goal.loop-k-preserved
loop-k-preserved c = record {
  count = c.loop-k.invariant.count;
  kept = search rules;
  puts = puts_then _ c.put_node.ensures.puts c.loop-k.invariant.puts (λ put l. level-more (tree_of c.args.content.bytes.now) put l c.args.h c.loop-k.k);
}
