use mathlib.Core.Path.{refl}
use Prim.Native.Nat.{suc}
use Rattle.std.proofs.lemmas.Bool.{not-true, not-false}
use Rattle.base.specs.Pick.{pick}
use Rattle.tree.specs.Pack.{levels}
use Rattle.verdict.specs.Integrity.{integrity_in}
use Rattle.verdict.specs.Rooms.{rooms_of}
use Rattle.verdict.specs.Steps.{got_by}
use Rattle.store.specs.Nodes.{Puts}
use Rattle.store.specs.Steps.{put_peaks}
use Rattle.store.proofs.NodesLaws.{puts_then}
use Rattle.store.proofs.StoringLaws.{hung, stored_is, store-new, store-held}
use Rattle.store.proofs.storing.store.Goals as goal
use Rattle.store.proofs.storing.store.Goals.{then-not-place, else-not-place}

pub returns-then-held-clause-rooms : goal.returns-then-held-clause-rooms
returns-then-held-clause-rooms c =
    store-held (rooms_of c.args.chunks.now c.args.map.now c.args.nodes.now.hashes.now c.args.nodes.now.trusted.now) c.args.place.n c.args.place.c c.args.t
    c.args.chunk.now (integrity_in c.args.integrity) c.test-held.ensures c.if-held.true

pub returns-clause-rooms : goal.returns-clause-rooms
returns-clause-rooms c =
    let o = integrity_in c.args.integrity in
    let p : Puts (λ put l. pick c.args.place.opened l (put_peaks put (got_by o) c.args.place.n (suc (levels c.args.place.n)) l)) c.args.nodes.now c.if-not-place.nodes
    = elim c.if-not-place.branch [
      | then-not-place w ↦ rw (not-true c.args.place.opened w.if-not-place.true, w.nodes-is) w.put_peaks.ensures.puts
      | else-not-place w ↦ rw (not-false c.args.place.opened w.if-not-place.false, w.nodes-is) (record { hashes = refl; trusted = refl })
    ] in
    store-new (rooms_of c.args.chunks.now c.args.map.now c.args.nodes.now.hashes.now c.args.nodes.now.trusted.now) c.args.place.n c.args.place.c c.args.t
    c.args.chunk.now o c.test-held.ensures c.if-held.false
    (stored_is c.args.chunks.now c.args.map.now c.args.nodes.now _ c.args.place.n c.args.place.c c.args.t c.args.chunk.now o c.args.scratch.now c.copy_in.ensures c.set.ensures
    c.requires.opened_value c.requires.t_bound.2
    (puts_then (hung c.args.place.opened c.args.place.n c.args.place.c c.args.t c.args.scratch.now o) c.put_path.ensures.puts p (λ put l. refl)))
