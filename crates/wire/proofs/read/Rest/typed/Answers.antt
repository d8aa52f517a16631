use native.Mathlib.Omega.{arith}
use mathlib.Core.Path.{◌∙◌}
use Rattle.wire.proofs.ReadLaws.{row-handshake, row-data, row-ack, row-integrity, row-choke, row-unchoke, row-ranged, no_row}
use Rattle.wire.proofs.read.Rest.typed.Goals as goal
use Rattle.wire.proofs.read.Rest.typed.Goals.{in-3-1, in_default+else-kind-lt8+then-kind-lt10}

pub returns-in-0 : goal.returns-in-0
returns-in-0 c = c.handshake.ensures ∙ row-handshake _ _ _ _ c.in-0.is

pub returns-in-1 : goal.returns-in-1
returns-in-1 c = c.chunk.ensures ∙ row-data _ _ _ _ c.in-1.is

pub returns-in-2 : goal.returns-in-2
returns-in-2 c = c.ack.ensures ∙ row-ack _ _ _ _ c.in-2.is

pub returns-in-3 : goal.returns-in-3
returns-in-3 c =
    elim c.in-3-1.branch [
      | in-3-1 w ↦ c.ranged.ensures ∙ row-ranged _ _ _ _ (λ z. omega arith)
      | in_default+else-kind-lt8+then-kind-lt10 w ↦ c.ranged.ensures ∙ row-ranged _ _ _ _ (λ z. omega arith)
    ]

pub returns-in-4 : goal.returns-in-4
returns-in-4 c = c.integrity.ensures ∙ row-integrity _ _ _ _ c.in-4.is

pub returns-in-10 : goal.returns-in-10
returns-in-10 c = row-choke _ _ _ _ c.in-10.is

pub returns-in-11 : goal.returns-in-11
returns-in-11 c = row-unchoke _ _ _ _ c.in-11.is

pub returns-in-255 : goal.returns-in-255
returns-in-255 c = no_row _ _ _ _ (omega arith) (omega arith) (omega arith) (omega arith) (omega arith) (omega arith) (omega arith) (omega arith) (omega arith)

pub returns-in-5-to-7 : goal.returns-in-5-to-7
returns-in-5-to-7 c = no_row _ _ _ _ (omega arith) (omega arith) (omega arith) (omega arith) (omega arith) (omega arith) (omega arith) (omega arith) (omega arith)

pub returns-in-12-to-254 : goal.returns-in-12-to-254
returns-in-12-to-254 c = no_row _ _ _ _ (omega arith) (omega arith) (omega arith) (omega arith) (omega arith) (omega arith) (omega arith) (omega arith) (omega arith)
