use mathlib.Core.Path.{◌≡◌, refl}
use Prim.Native.Nat.{suc, ◌+◌}
use native.Mathlib.Omega.{arith}
use Rattle.std.proofs.Common.{rules}
use Rattle.tree.specs.Pack.{levels}
use Rattle.store.specs.Building.{tree_of}
use Rattle.store.specs.Steps.{put_levels}
use Rattle.store.proofs.BuildingLaws.{filled-levels}
use Rattle.store.proofs.NodesLaws.{puts_then, levels-more}
use Rattle.store.proofs.nodes.Nodes.put_levels.Goals as goal

pub loop-h-init : goal.loop-h-init
unfolding put_levels
loop-h-init c = record { kept = search rules; puts = record { hashes = refl; trusted = refl } }

pub put_level-requires-clause-filled : goal.put_level-requires-clause-filled
put_level-requires-clause-filled c =
    rw c.loop-h.invariant.puts.hashes (filled-levels c.args.content.bytes.now c.args.content.n c.loop-h.h c.args.self.now.hashes.now c.requires)

pub loop-h-preserved : goal.loop-h-preserved
loop-h-preserved c = record {
  kept = search rules;
  puts = puts_then _ c.put_level.ensures.puts c.loop-h.invariant.puts (λ put l. levels-more (tree_of c.args.content.bytes.now) put l c.args.content.n c.loop-h.h);
}

pub returns-2-clause-puts : goal.returns-2-clause-puts
returns-2-clause-puts c = let e : c.loop-h.h + 1 ≡ suc (levels c.args.content.n) = omega (arith, c.levels-h-end.ensures.0) in
    puts_then _ c.put_level.ensures.puts c.loop-h.invariant.puts (λ put l. rw (← e) (levels-more (tree_of c.args.content.bytes.now) put l c.args.content.n c.loop-h.h))
