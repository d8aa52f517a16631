use mathlib.Core.Path.{refl}
use Rattle.wire.proofs.ReadLaws.{handshake-cut, handshake-bad, handshake-good}
use Rattle.wire.proofs.SizeLaws.{size-said, size-unsaid}
use Rattle.wire.proofs.read.Rest.handshake.Goals as goal

pub returns-then-self-lt5 : goal.returns-then-self-lt5
returns-then-self-lt5 c = handshake-cut _ _ _ c.if-self-lt5.true

pub returns-in_err-size : goal.returns-in_err-size
returns-in_err-size c = rw c.from_residual.ensures (handshake-bad _ _ _ c.if-self-lt5.false _ refl (size-unsaid _ c.in_err-size.ensures.size))

pub kind-requires : goal.kind-requires
kind-requires c = (size-said _ c.in_ok-size.ensures.size).0

pub returns : goal.returns
returns c = let h = size-said _ c.in_ok-size.ensures.size in handshake-good _ _ _ c.if-self-lt5.false _ h.0 h.1 c.load32.ensures c.kind.ensures
