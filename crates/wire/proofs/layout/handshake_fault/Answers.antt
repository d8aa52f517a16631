use mathlib.Core.Path.{refl}
use Rattle.wire.proofs.LayoutLaws.{fault-none, fault-zero, fault-closing, fault-options}
use Rattle.wire.proofs.layout.handshake_fault.Goals as goal
use Rattle.wire.proofs.layout.handshake_fault.Goals.{then-destination-eq0-via-then-destination-eq0, then-destination-eq0-via-else-destination-eq0+then-not-is_end_only}

pub returns-then-source-ne0 : goal.returns-then-source-ne0
returns-then-source-ne0 c = (fault-none _ _ _ c.if-source-ne0.true, refl)

pub returns-then-destination-eq0 : goal.returns-then-destination-eq0
returns-then-destination-eq0 c =
    elim c.then-destination-eq0.branch [
      | then-destination-eq0-via-then-destination-eq0 w ↦ (fault-zero _ _ _ c.if-source-ne0.false w.if-destination-eq0.true, refl)
      | then-destination-eq0-via-else-destination-eq0+then-not-is_end_only w ↦ (fault-options _ _ _ c.if-source-ne0.false w.if-destination-eq0.false _ w.is_end_only.ensures w.if-not-is_end_only.true, refl)
    ]

pub returns : goal.returns
returns c = (fault-closing _ _ _ c.if-source-ne0.false c.if-destination-eq0.false _ c.is_end_only.ensures c.if-not-is_end_only.false, refl)
