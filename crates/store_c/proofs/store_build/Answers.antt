use mathlib.Core.Path.{refl, ap, ◌∙◌}
use native.Mathlib.Omega.{arith}
use Rattle.verdict.specs.Room.{put_hash}
use Rattle.store.proofs.Promise.{rooms_of, root_of, build_nameless}
use Rattle.base.proofs.OutLaws.{nameless}
use Rattle.store_c.proofs.RootLaws.{rooted_not, rooted-done, put_refused}
use Rattle.store_c.proofs.store_build.Goals as goal

pub returns-then-root-ne8 : goal.returns-then-root-ne8
returns-then-root-ne8 c = (rw c.number.ensures (rooted_not c.args.root.now (rooms_of c.args.chunks.now c.args.map.now c.args.hashes.now c.args.trusted.now) _ c.if-root-ne8.true), rw c.number.ensures refl)

pub returns-in-Ok : goal.returns-in-Ok
returns-in-Ok c = (
  rooted-done c.args.root.now (rooms_of c.args.chunks.now c.args.map.now c.args.hashes.now c.args.trusted.now) (omega arith) c.in-Ok.ensures.out,
  c.write.ensures ∙ ap (put_hash c.args.root.now 0) c.in-Ok.ensures.root,
)

pub returns-in-Err : goal.returns-in-Err
returns-in-Err c = let w = (rooms_of c.args.chunks.now c.args.map.now c.args.hashes.now c.args.trusted.now) in (
  rw c.number-in-Err.ensures (rooted-done c.args.root.now w (omega arith) (nameless (build_nameless w c.args.length c.args.content.now) c.in-Err.ensures.out)),
  rw c.number-in-Err.ensures (put_refused c.in-Err.refusal c.args.root.now (root_of c.args.content.now)),
)
