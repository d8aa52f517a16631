use mathlib.Core.Bool.{not}
use mathlib.Core.Path.{refl}
use Rattle.std.proofs.Common.{ap}
use native.Mathlib.Omega.{arith}
use Rattle.wire.proofs.PlainLaws.{ack-cut, ack-special, ack-order, ack-good}
use Rattle.wire.proofs.SizeLaws.{size-none, size-there}
use Rattle.wire.proofs.plain.ack_size.Goals as goal
use Rattle.wire.proofs.plain.ack_size.Goals.{then-is_special-via-then-is_special, then-is_special-via-else-is_special+then-not-in_order}

pub returns-in_err-chunks : goal.returns-in_err-chunks
returns-in_err-chunks c = rw c.from_residual.ensures (size-none (ack-cut _ _ refl (c.in_err-chunks.ensures.cut refl)))

pub returns-then-is_special : goal.returns-then-is_special
returns-then-is_special c =
    let h = c.in_ok-chunks.ensures.whole in
    elim c.then-is_special.branch [
      | then-is_special-via-then-is_special w ↦ size-none (ack-special _ _ refl h.2 (rw (h.0, h.1) at c.is_special.ensures) w.if-is_special.true)
      | then-is_special-via-else-is_special+then-not-in_order w ↦ size-none (ack-order _ _ refl h.2 (rw (h.0, h.1) at c.is_special.ensures) w.if-is_special.false (rw (h.0, h.1) at w.in_order.ensures) (ap not w.if-not-in_order.true))
    ]

pub returns : goal.returns
returns c =
    let h = c.in_ok-chunks.ensures.whole in
    size-there _ (ack-good _ _ c.named_size.ensures.0 (omega (arith, c.named_size.ensures.0, h.2)) (rw (h.0, h.1) at c.is_special.ensures) c.if-is_special.false (rw (h.0, h.1) at c.in_order.ensures) (ap not c.if-not-in_order.false)) (λ z. omega (arith, z))
