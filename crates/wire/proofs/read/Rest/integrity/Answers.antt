use mathlib.Core.Path.{refl}
use native.Mathlib.Omega.{arith}
use Rattle.wire.proofs.ReadLaws.{integrity-cut, integrity-no-node, integrity-good}
use Rattle.wire.proofs.read.Rest.integrity.Goals as goal

pub returns-in_err-chunks : goal.returns-in_err-chunks
returns-in_err-chunks c = rw c.from_residual.ensures (integrity-cut _ _ _ refl (c.in_err-chunks.ensures.cut refl))

pub returns-then-not-names_node : goal.returns-then-not-names_node
returns-then-not-names_node c = let h = c.in_ok-chunks.ensures.whole in integrity-no-node _ _ _ refl h.2 (rw (h.0, h.1) at c.names_node.ensures) c.if-not-names_node.true

pub returns : goal.returns
returns c = let h = c.in_ok-chunks.ensures.whole in integrity-good _ _ _ c.named_size-named.ensures.0 (omega (arith, c.named_size-named.ensures.0, h.2)) (rw (h.0, h.1) at c.names_node.ensures) c.if-not-names_node.false _ (rw (h.0, h.1) at c.read-r.ensures)
