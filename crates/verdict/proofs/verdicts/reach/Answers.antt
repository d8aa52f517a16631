use Rattle.std.proofs.Common.{◌≡◌, ℕ, Bool, suc, ◌+◌, ◌-◌, sym, ap, ◌∙◌, arith}
use Rattle.tree.specs.Node.{above}
use Rattle.tree.specs.Pack.{levels, least_from}
use Rattle.verdict.specs.Steps.{room_counts}
use Rattle.verdict.proofs.LoopLaws.{reach_here, reach-next, reach_end}
use Rattle.verdict.proofs.verdicts.reach.Goals as goal

pub loop-h-init : goal.loop-h-init
loop-h-init c =
    let e : c.levels-end.result + 1 - 0 ≡ suc (levels c.args.place.n) = omega arith in
    ap (λ (x : ℕ). least_from (λ k. room_counts c.args.place.opened c.args.place.n c.args.trusted.now k (above k c.args.place.c)) x 0) e

pub returns-then-counts : goal.returns-then-counts
returns-then-counts c = (sym (reach_here _ _ c.loop-h.h (omega arith) (sym c.counts.ensures ∙ c.if-counts.true)) ∙ c.loop-h.invariant, omega arith)

pub loop-h-preserved : goal.loop-h-preserved
loop-h-preserved c =
    let f : ℕ → Bool = λ k. room_counts c.args.place.opened c.args.place.n c.args.trusted.now k (above k c.args.place.c) in
    let end = c.levels-end.result + 1 in
    let e : end - (c.loop-h.h + 1) ≡ end - c.loop-h.h - 1 = omega arith in
    ap (λ (x : ℕ). least_from f x (c.loop-h.h + 1)) e
    ∙ sym (reach-next f (end - c.loop-h.h) c.loop-h.h (omega arith) (sym c.counts.ensures ∙ c.if-counts.false))
    ∙ c.loop-h.invariant

pub returns : goal.returns
returns c =
    let e : c.levels-end.result + 1 ≡ c.loop-h.h = omega arith in
    (e ∙ sym (reach_end _ _ c.loop-h.h (omega arith)) ∙ c.loop-h.invariant, omega arith)
