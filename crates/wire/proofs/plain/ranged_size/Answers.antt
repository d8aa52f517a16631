use mathlib.Core.Bool.{not}
use mathlib.Core.Path.{refl}
use Rattle.std.proofs.Common.{ap}
use native.Mathlib.Omega.{arith}
use Rattle.wire.proofs.PlainLaws.{ranged-cut, ranged-order, ranged-good}
use Rattle.wire.proofs.SizeLaws.{size-none, size-there}
use Rattle.wire.proofs.plain.ranged_size.Goals as goal

pub returns-in_err-chunks : goal.returns-in_err-chunks
returns-in_err-chunks c = rw c.from_residual.ensures (size-none (ranged-cut _ _ refl (omega (arith, c.in_err-chunks.ensures.cut refl))))

pub returns-then-not-in_order : goal.returns-then-not-in_order
returns-then-not-in_order c = let h = c.in_ok-chunks.ensures.whole in size-none (ranged-order _ _ refl (omega (arith, h.2)) (rw (h.0, h.1) at c.in_order.ensures) (ap not c.if-not-in_order.true))

pub returns : goal.returns
returns c = let h = c.in_ok-chunks.ensures.whole in size-there _ (ranged-good _ _ c.named_size.ensures.0 (omega (arith, c.named_size.ensures.0, h.2)) (rw (h.0, h.1) at c.in_order.ensures) (ap not c.if-not-in_order.false)) (λ z. omega (arith, c.named_size.ensures.1, z))
