use mathlib.Core.Path.{refl}
use native.Mathlib.Omega.{arith}
use Rattle.wire.proofs.ReadLaws.{ranged-cut, ranged-empty, ranged-order, ranged-good}
use Rattle.wire.proofs.read.Rest.ranged.Goals as goal

pub returns-in_err-chunks : goal.returns-in_err-chunks
returns-in_err-chunks c = rw c.from_residual.ensures (ranged-cut _ _ _ refl _ (omega (arith, c.in_err-chunks.ensures.cut refl)))

pub returns-then-is_empty : goal.returns-then-is_empty
returns-then-is_empty c = let h = c.in_ok-chunks.ensures.whole in ranged-empty _ _ _ c.named_size.ensures.0 _ (omega (arith, c.named_size.ensures.0, h.2)) (rw (h.0, h.1) at c.is_empty.ensures) c.if-is_empty.true

pub returns-then-r : goal.returns-then-r
returns-then-r c = let h = c.in_ok-chunks.ensures.whole in ranged-order _ _ _ c.named_size.ensures.0 _ (omega (arith, c.named_size.ensures.0, h.2)) (rw (h.0, h.1) at c.is_empty.ensures) c.if-is_empty.false _ (rw (h.0, h.1) at c.read-r.ensures) (omega (arith, c.if-r.true))

pub returns : goal.returns
returns c = let h = c.in_ok-chunks.ensures.whole in ranged-good _ _ _ c.named_size.ensures.0 _ (omega (arith, c.named_size.ensures.0, h.2)) (rw (h.0, h.1) at c.is_empty.ensures) c.if-is_empty.false _ (rw (h.0, h.1) at c.read-r.ensures) (omega (arith, c.if-r.false)) c.named.ensures
