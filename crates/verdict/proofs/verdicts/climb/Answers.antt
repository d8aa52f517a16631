use Rattle.std.proofs.Common.{◌≡◌, ℕ, List, refl, sym, ap, ◌∙◌, add-one, arith}
use Rattle.hash.proofs.Promise.{sha256, bytes_of}
use Rattle.tree.specs.Node.{sibling_from}
use Rattle.tree.specs.Tree.{joined, climb}
use Rattle.verdict.specs.Integrity.{integrity_in}
use Rattle.verdict.specs.Room.{put_hash}
use Rattle.verdict.specs.Steps.{got_by}
use Rattle.verdict.proofs.ClimbLaws.{kept-none, kept_more}
use Rattle.tree.proofs.TreeLaws.{climb-suc}
use Rattle.verdict.proofs.verdicts.climb.Goals as goal

pub loop-h-init : goal.loop-h-init
unfolding climb
loop-h-init c = (refl, kept-none _ _ _ _)

pub loop-h-preserved : goal.loop-h-preserved
loop-h-preserved c = let o = integrity_in c.args.integrity in
    let put = c.write.ensures ∙ ap (λ (k : ℕ). put_hash c.loop-h.scratch k (bytes_of c.loop-h.acc.words)) c.from.ensures in
    rw (add-one c.loop-h.h) (
      c.step-acc.ensures
          ∙ ap (λ (x : List ℕ). joined sha256 c.args.c c.loop-h.h x (got_by o c.loop-h.h (sibling_from c.loop-h.h c.args.c))) c.loop-h.invariant.0
          ∙ sym (climb-suc sha256 (got_by o) (bytes_of c.args.v.words) c.args.c c.loop-h.h),
      kept_more (got_by o) (bytes_of c.args.v.words) c.args.c c.args.scratch.now c.loop-h.h c.loop-h.invariant.1 c.loop-h.invariant.0 put,
    )

pub returns : goal.returns
returns c = let e : c.loop-h.h ≡ c.args.t = omega arith in
    rw (← e) c.loop-h.invariant
