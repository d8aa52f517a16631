use native.Mathlib.Omega.{arith}
use lib.ListN.{length-drop}
use Rattle.wire.proofs.BytesLaws.{part}
use Rattle.wire.proofs.FrontLaws.{front-start, front_on}
use Rattle.wire.proofs.PlainLaws.{size-inside-said}
use Rattle.wire.proofs.SizeLaws.{size-said}
use Rattle.wire.proofs.pass.plain_front.Goals as goal

pub loop-size-init : goal.loop-size-init
loop-size-init c = front-start _ _ c.requires.min_size_in_bounds c.requires.datagram_len_bound c.none-survey.ensures

pub slice_bounds-acting-count : goal.slice_bounds-acting-count
slice_bounds-acting-count c = omega (arith, size-inside-said _ _ _ c.in-Some.ensures)

pub slice_bounds-acting-start : goal.slice_bounds-acting-start
slice_bounds-acting-start c = omega (arith, size-inside-said _ _ _ c.in-Some.ensures)

pub acting-survey-requires : goal.acting-survey-requires
acting-survey-requires c = simp (part, length-drop) (omega (arith, size-inside-said _ _ _ c.in-Some.ensures))

pub overflow_add-at : goal.overflow_add-at
overflow_add-at c = omega (arith, size-inside-said _ _ _ c.in-Some.ensures)

pub loop-size-smaller : goal.loop-size-smaller
loop-size-smaller c = let h = size-said _ c.in-Some.ensures in omega (arith, size-inside-said _ _ _ c.in-Some.ensures, h.1)

pub loop-size-preserved : goal.loop-size-preserved
loop-size-preserved c = let h = size-said _ c.in-Some.ensures in front_on _ _ _ _ c.loop-size.invariant h.0 h.1 (rw part at c.acting-survey.ensures)

pub returns : goal.returns
returns c = c.loop-size.invariant
