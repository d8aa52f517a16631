use native.Mathlib.Omega.{arith}
use lib.Count.{ones-le}
use Rattle.bits.proofs.WordCountLaws.{over_none, over-turn, over_end}
use Rattle.bits.proofs.ones_over.Goals as goal

pub loop-w-init : goal.loop-w-init
loop-w-init c = (omega arith, over_none _)

pub overflow_add-ones : goal.overflow_add-ones
overflow_add-ones c = omega (arith, ones-le 32 _ (c.type_inv.ws c.loop-w.w).fits)

pub loop-w-preserved : goal.loop-w-preserved
loop-w-preserved c = let f = (c.type_inv.ws c.loop-w.w).fits in
    (omega (arith, ones-le 32 _ f), over-turn _ c.loop-w.w f c.loop-w.invariant.1)

pub returns : goal.returns
returns c = (over_end _ c.args.n c.loop-w.w (omega arith) c.loop-w.invariant.1, omega arith)
