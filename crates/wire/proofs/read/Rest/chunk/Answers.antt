use mathlib.Core.Path.{refl}
use native.Mathlib.Omega.{arith}
use Rattle.wire.proofs.ReadLaws.{data-cut, data-special, data-range, data-good}
use Rattle.wire.proofs.read.Rest.chunk.Goals as goal

pub returns-in_err-chunks : goal.returns-in_err-chunks
returns-in_err-chunks c = rw c.from_residual.ensures (data-cut _ _ _ refl (c.in_err-chunks.ensures.cut refl))

pub returns-then-is_special : goal.returns-then-is_special
returns-then-is_special c = let h = c.in_ok-chunks.ensures.whole in data-special _ _ _ refl h.2 (rw (h.0, h.1) at c.is_special.ensures) c.if-is_special.true

pub returns-then-r : goal.returns-then-r
returns-then-r c = let h = c.in_ok-chunks.ensures.whole in data-range _ _ _ refl h.2 (rw (h.0, h.1) at c.is_special.ensures) c.if-is_special.false _ (rw (h.0, h.1) at c.read-r.ensures) c.if-r.true

pub returns : goal.returns
returns c = let h = c.in_ok-chunks.ensures.whole in data-good _ _ _ c.named_size-named.ensures.0 (omega (arith, c.named_size-named.ensures.0, h.2)) (rw (h.0, h.1) at c.is_special.ensures) c.if-is_special.false _ (rw (h.0, h.1) at c.read-r.ensures) c.if-r.false c.load64.ensures
