use mathlib.Core.Path.{refl}
use native.Mathlib.Omega.{arith}
use Rattle.wire.proofs.PlainLaws.{here_end, here-no-node, here-node}
use Rattle.wire.proofs.plain.is_node.Goals as goal

pub returns-then-datagram-at : goal.returns-then-datagram-at
returns-then-datagram-at c = (here_end _ _ _ c.if-datagram-at.true).1

pub returns-then-rest-ne-INTEGRITY : goal.returns-then-rest-ne-INTEGRITY
returns-then-rest-ne-INTEGRITY c = here-no-node _ _ _ (λ k l. c.if-rest-ne-INTEGRITY.true k)

pub returns-in-None : goal.returns-in-None
returns-in-None c = here-no-node _ _ _ (λ k l. omega (arith, c.in-None.ensures.cut refl, l))

pub returns-in-Some : goal.returns-in-Some
returns-in-Some c = let h = c.in-Some.ensures.whole in here-node _ _ _ c.if-rest-ne-INTEGRITY.false refl h.2 (rw (h.0, h.1) at c.names_node.ensures)
