use mathlib.Core.Path.{refl}
use native.Mathlib.Omega.{arith}
use Rattle.std.proofs.lemmas.Result.{err_from_is_err_and}
use Rattle.base.proofs.OutLaws.{refusal_number}
use Rattle.wire.proofs.LayoutLaws.{alone-before, alone-behind, alone-fault, alone-good}
use Rattle.wire.proofs.layout.handshake.Goals as goal
use Rattle.wire.proofs.layout.handshake.Goals.{then-at-ne-MIN_SIZE-via-then-at-ne-MIN_SIZE, then-at-ne-MIN_SIZE-via-else-at-ne-MIN_SIZE+then-next-datagram}

pub returns-then-at-ne-MIN_SIZE : goal.returns-then-at-ne-MIN_SIZE
returns-then-at-ne-MIN_SIZE c =
    elim c.then-at-ne-MIN_SIZE.branch [
      | then-at-ne-MIN_SIZE-via-then-at-ne-MIN_SIZE w ↦ alone-before _ _ _ _ _ w.if-at-ne-MIN_SIZE.true
      | then-at-ne-MIN_SIZE-via-else-at-ne-MIN_SIZE+then-next-datagram w ↦ alone-behind _ _ _ _ _ w.if-at-ne-MIN_SIZE.false (λ e. omega (arith, w.if-next-datagram.true))
    ]

pub returns-in_err-handshake_fault : goal.returns-in_err-handshake_fault
returns-in_err-handshake_fault c =
    let p = err_from_is_err_and c.from_residual.result c.from_residual.ensures.1 in
    rw (p.1, p.2) (alone-fault _ _ _ _ _ c.if-at-ne-MIN_SIZE.false (omega (arith, c.if-next-datagram.false)) _ _ c.load32.ensures c.in_err-handshake_fault.ensures.0 (refusal_number _))

pub returns : goal.returns
returns c = alone-good _ _ _ _ _ c.if-at-ne-MIN_SIZE.false (omega (arith, c.if-next-datagram.false)) _ _ c.load32.ensures c.in_ok-handshake_fault.ensures.0 refl
