use native.Mathlib.Omega.{arith}
use Rattle.store.proofs.Promise.{rooms_of, start_spec, start_nameless}
use Rattle.base.proofs.OutLaws.{nameless}
use Rattle.store_c.proofs.RootLaws.{rooted_not, rooted_by}
use Rattle.store_c.proofs.store_start.Goals as goal

pub returns-then-root-ne8 : goal.returns-then-root-ne8
returns-then-root-ne8 c = rw c.number.ensures (rooted_not c.args.root.now (rooms_of c.args.chunks.now c.args.map.now c.args.hashes.now c.args.trusted.now) _ c.if-root-ne8.true)

pub returns-in-Ok : goal.returns-in-Ok
returns-in-Ok c = let w = (rooms_of c.args.chunks.now c.args.map.now c.args.hashes.now c.args.trusted.now) in
    rooted_by (λ r. start_spec w r c.args.length) c.args.root.now w (omega arith) c.read.ensures c.in-Ok.ensures

pub returns-in-Err : goal.returns-in-Err
returns-in-Err c = let w = (rooms_of c.args.chunks.now c.args.map.now c.args.hashes.now c.args.trusted.now) in
    rw c.number-in-Err.ensures (rooted_by (λ r. start_spec w r c.args.length) c.args.root.now w (omega arith) c.read.ensures (nameless (start_nameless w _ c.args.length) c.in-Err.ensures))
