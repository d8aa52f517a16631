use native.Mathlib.Omega.{arith}
use Rattle.wire.proofs.PlainLaws.{here_end, here-single}
use Rattle.wire.proofs.SizeLaws.{size-none, size-there}
use Rattle.wire.proofs.plain.size.Goals as goal

pub returns-then-datagram-at : goal.returns-then-datagram-at
returns-then-datagram-at c = size-none (here_end _ _ _ c.if-datagram-at.true).0

pub returns-then-is_single : goal.returns-then-is_single
returns-then-is_single c = size-there 1 (here-single _ _ _ (omega arith) c.is_single.ensures c.if-is_single.true) (λ z. omega (arith, z))
