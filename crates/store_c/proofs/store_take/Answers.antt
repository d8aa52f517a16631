use mathlib.Core.Path.{ap, ◌∙◌}
use native.Mathlib.Omega.{arith}
use Rattle.base.specs.Out.{node_number}
use Rattle.store.proofs.Promise.{rooms_of, integrity_of, take_spec}
use Rattle.store_c.proofs.RootLaws.{rooted_not, rooted_by, node_by}
use Rattle.store_c.proofs.store_take.Goals as goal

pub returns-then-root-ne8 : goal.returns-then-root-ne8
returns-then-root-ne8 c = rw c.number.ensures (rooted_not c.args.root.now (rooms_of c.args.chunks.now c.args.map.now c.args.hashes.now c.args.trusted.now) _ c.if-root-ne8.true)

pub returns-in-Ok : goal.returns-in-Ok
returns-in-Ok c =
    let w = (rooms_of c.args.chunks.now c.args.map.now c.args.hashes.now c.args.trusted.now) in
    let o = integrity_of c.args.entries.now c.args.bytes.now in
    rooted_by (λ r. take_spec w r c.args.length c.args.c c.args.chunk.now o) c.args.root.now w (omega arith) c.read.ensures c.in-Ok.ensures

pub returns-in-Err : goal.returns-in-Err
returns-in-Err c =
    let w = (rooms_of c.args.chunks.now c.args.map.now c.args.hashes.now c.args.trusted.now) in
    let o = integrity_of c.args.entries.now c.args.bytes.now in
    rw c.number-in-Err.ensures
    (rooted_by (λ r. take_spec w r c.args.length c.args.c c.args.chunk.now o) c.args.root.now w (omega arith) c.read.ensures
    (node_by w _ c.args.length c.args.c c.args.chunk.now o c.in-Err.ensures (c.node_number.ensures ∙ ap node_number c.node.ensures)))
