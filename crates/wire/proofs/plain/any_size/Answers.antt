use native.Mathlib.Omega.{arith}
use mathlib.Core.Path.{refl, ap, ◌∙◌}
use Rattle.wire.specs.Steps.{some_size}
use Rattle.wire.proofs.PlainLaws.{here_end, here-single, here-ranged, here-ack, here-other}
use Rattle.wire.proofs.SizeLaws.{size-none, size-there}
use Rattle.wire.proofs.plain.any_size.Goals as goal

pub returns-then-datagram-at : goal.returns-then-datagram-at
returns-then-datagram-at c = size-none (here_end _ _ _ c.if-datagram-at.true).0

pub returns-then-is_single : goal.returns-then-is_single
returns-then-is_single c = size-there 1 (here-single _ _ _ (omega arith) c.is_single.ensures c.if-is_single.true) (λ z. omega (arith, z))

pub returns-then-is_ranged : goal.returns-then-is_ranged
returns-then-is_ranged c = c.ranged_size.ensures ∙ ap some_size (here-ranged _ _ _ (omega arith) c.is_ranged.ensures c.if-is_ranged.true refl)

pub returns-then-kind-eq-ACK : goal.returns-then-kind-eq-ACK
returns-then-kind-eq-ACK c = c.ack_size.ensures ∙ ap some_size (here-ack _ _ _ (omega arith) c.if-kind-eq-ACK.true refl)

pub returns : goal.returns
returns c = size-none (here-other _ _ _ c.is_single.ensures c.if-is_single.false c.is_ranged.ensures c.if-is_ranged.false c.if-kind-eq-ACK.false)
