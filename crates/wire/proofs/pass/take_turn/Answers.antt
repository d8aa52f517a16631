use native.Mathlib.Omega.{arith}
use lib.ListN.{length-drop}
use Rattle.wire.proofs.BytesLaws.{part}
use Rattle.wire.proofs.PlainLaws.{size-inside-said, node-inside}
use Rattle.wire.proofs.PlaceLaws.{place-least}
use Rattle.wire.proofs.SizeLaws.{size-said}
use Rattle.wire.proofs.TurnLaws.{turn-plain, turn-node, note-room}
use Rattle.wire.proofs.pass.take_turn.Goals as goal

pub overflow_add-result : goal.overflow_add-result
overflow_add-result c = omega (arith, c.requires.high, size-inside-said _ _ _ c.in-Some.ensures)

pub slice_bounds-acting-count : goal.slice_bounds-acting-count
slice_bounds-acting-count c = omega (arith, size-inside-said _ _ _ c.in-Some.ensures)

pub slice_bounds-acting-start : goal.slice_bounds-acting-start
slice_bounds-acting-start c = omega (arith, size-inside-said _ _ _ c.in-Some.ensures)

pub acting-requires : goal.acting-requires
acting-requires c = simp (part, length-drop) (omega (arith, size-inside-said _ _ _ c.in-Some.ensures))

pub returns-in-Some : goal.returns-in-Some
returns-in-Some c = let h = size-said _ c.in-Some.ensures in turn-plain _ _ _ _ _ _ h.0 h.1 (rw part at c.acting.ensures)

pub slice_bounds-chunks-count : goal.slice_bounds-chunks-count
slice_bounds-chunks-count c = omega (arith, node-inside _ _ _ c.is_node.ensures c.if-is_node.true)

pub slice_bounds-chunks-start : goal.slice_bounds-chunks-start
slice_bounds-chunks-start c = omega (arith, node-inside _ _ _ c.is_node.ensures c.if-is_node.true)

pub invariant_of-chunks : goal.invariant_of-chunks
invariant_of-chunks c = simp (part, length-drop) (omega (arith, node-inside _ _ _ c.is_node.ensures c.if-is_node.true))

pub overflow_add-at : goal.overflow_add-at
overflow_add-at c = omega (arith, c.requires.high, c.named_size-named.ensures.0, node-inside _ _ _ c.is_node.ensures c.if-is_node.true)

pub overflow_add-behind : goal.overflow_add-behind
overflow_add-behind c = omega (arith, c.requires.high, c.named_size-named.ensures.0, node-inside _ _ _ c.is_node.ensures c.if-is_node.true)

pub overflow_add-behind-then-is_node : goal.overflow_add-behind-then-is_node
overflow_add-behind-then-is_node c = omega (arith, c.requires.high, c.named_size-named.ensures.0, node-inside _ _ _ c.is_node.ensures c.if-is_node.true)

pub note-requires : goal.note-requires
note-requires c = note-room _ _ _ _ c.requires (simp length-drop (omega (arith, place-least c.args.format, node-inside _ _ _ c.is_node.ensures c.if-is_node.true)))

pub returns-then-is_node : goal.returns-then-is_node
returns-then-is_node c = turn-node _ _ _ _ _ _ c.is_node.ensures c.if-is_node.true c.last.ensures c.node.ensures c.naming.ensures c.named_size-named.ensures.0 c.note.ensures
