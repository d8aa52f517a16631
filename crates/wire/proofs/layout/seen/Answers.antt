use native.Mathlib.Omega.{arith}
use mathlib.Core.Path.{refl, sym, ◌∙◌}
use lib.ListN.{length-drop}
use Rattle.wire.proofs.BytesLaws.{part}
use Rattle.wire.proofs.LayoutLaws.{seen_at, seen-on-four}
use Rattle.wire.proofs.layout.seen.Goals as goal
use Rattle.wire.proofs.layout.seen.Goals.{then-a-node-via-then-a-node, then-a-node-via-else-a-node+then-b-node, then-a-node-via-else-a-node+else-b-node+then-c-node, then-a-node-via-else-a-node+else-b-node+else-c-node+then-d-node}

pub loop-rest-init : goal.loop-rest-init
loop-rest-init c = refl

pub returns-then-a-node : goal.returns-then-a-node
returns-then-a-node c =
    elim c.then-a-node.branch [
      | then-a-node-via-then-a-node w ↦ sym (c.loop-rest.invariant ∙ seen_at _ 0 _ (omega arith) w.if-a-node.true)
      | then-a-node-via-else-a-node+then-b-node w ↦ sym (c.loop-rest.invariant ∙ seen_at _ 1 _ (omega arith) w.if-b-node.true)
      | then-a-node-via-else-a-node+else-b-node+then-c-node w ↦ sym (c.loop-rest.invariant ∙ seen_at _ 2 _ (omega arith) w.if-c-node.true)
      | then-a-node-via-else-a-node+else-b-node+else-c-node+then-d-node w ↦ sym (c.loop-rest.invariant ∙ seen_at _ 3 _ (omega arith) w.if-d-node.true)
    ]

pub loop-rest-smaller : goal.loop-rest-smaller
loop-rest-smaller c = simp (part, length-drop) (omega arith)

pub loop-rest-preserved : goal.loop-rest-preserved
loop-rest-preserved c = c.loop-rest.invariant ∙ seen-on-four _ _ (omega arith) c.if-a-node.false c.if-b-node.false c.if-c-node.false c.if-d-node.false ∙ simp part

pub returns : goal.returns
returns c = c.seen_among.ensures ∙ sym c.loop-rest.invariant
