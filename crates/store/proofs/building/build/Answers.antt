use Prim.Native.Nat.{◌+◌, ◌*◌, ◌≤◌}
use native.Mathlib.Omega.{arith}
use lib.ListN.{length}
use Rattle.store.proofs.BuildingLaws.{built_is}
use mathlib.Core.Path.{refl}
use Rattle.tree.specs.Pack.{levels}
use Rattle.tree.proofs.PackLaws.{levels-holds}
use Rattle.store.proofs.building.build.Goals as goal

pub put_levels-requires : goal.put_levels-requires
put_levels-requires c = let W = c.requires in
    omega (arith, W.0, levels-holds c.args.content.n)

pub root_of_peaks-root-requires : goal.root_of_peaks-root-requires
root_of_peaks-root-requires c = (c.levels.ensures.1, rw c.levels.ensures.0 (levels-holds c.args.content.n))

pub returns-clause-root : goal.returns-clause-root
returns-clause-root c = let W = c.requires in
    let r : 16 * c.args.content.n ≤ length c.args.nodes.now.hashes.now + 8 = omega (arith, W.0, levels-holds c.args.content.n) in
    (built_is c.args.chunks.now c.args.map.now c.args.nodes.now.hashes.now c.args.nodes.now.trusted.now c.args.content.bytes.now c.args.content.n (levels c.args.content.n) c.args.content.counted refl r
    c.copy_in.ensures c.mark_all.ensures (c.put_levels.ensures.puts.hashes, c.put_levels.ensures.puts.trusted) (rw (← c.levels.ensures.0) c.root_of_peaks-root.ensures) (rw c.root_node.ensures at c.trust.ensures.puts.hashes, rw c.root_node.ensures at c.trust.ensures.puts.trusted)).0

pub returns-clause-rooms : goal.returns-clause-rooms
returns-clause-rooms c = let W = c.requires in
    let r : 16 * c.args.content.n ≤ length c.args.nodes.now.hashes.now + 8 = omega (arith, W.0, levels-holds c.args.content.n) in
    (built_is c.args.chunks.now c.args.map.now c.args.nodes.now.hashes.now c.args.nodes.now.trusted.now c.args.content.bytes.now c.args.content.n (levels c.args.content.n) c.args.content.counted refl r
    c.copy_in.ensures c.mark_all.ensures (c.put_levels.ensures.puts.hashes, c.put_levels.ensures.puts.trusted) (rw (← c.levels.ensures.0) c.root_of_peaks-root.ensures) (rw c.root_node.ensures at c.trust.ensures.puts.hashes, rw c.root_node.ensures at c.trust.ensures.puts.trusted)).1
