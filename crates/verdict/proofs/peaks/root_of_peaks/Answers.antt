use Rattle.std.proofs.Common.{◌≡◌, ℕ, ◌-◌, ◌^◌, sym, ap, ◌∙◌, add-one, arith}
use Rattle.hash.proofs.Promise.{sha256}
use Rattle.tree.specs.Bin.{bin}
use Rattle.tree.specs.Node.{above}
use Rattle.tree.specs.Steps.{folded}
use Rattle.tree.specs.Tree.{given}
use Rattle.tree.proofs.NodeLaws.{above-top}
use Rattle.tree.proofs.PeakLaws.{folded-given, folded_start}
use Rattle.verdict.specs.Room.{filler}
use Rattle.verdict.specs.Steps.{by_node}
use Rattle.verdict.proofs.LoopLaws.{given-one}
use Rattle.verdict.proofs.peaks.root_of_peaks.Goals as goal

pub returns-then-from-w : goal.returns-then-from-w
returns-then-from-w g c =
    let held = g.S.Source.hash_at c.args.source.now in
    let e : c.args.n ≡ 2 ^ c.args.top = omega (arith, c.if-from-w.true, c.pow2-w.ensures.0) in
    let f : c.pow2-w.result - 1 ≡ bin c.args.top 0 = omega arith in
    c.hash.ensures ∙ ap held f ∙ sym (given-one sha256 filler c.args.n (by_node held) c.args.top e)

pub loop-h-init : goal.loop-h-init
unfolding filler
loop-h-init g c = c.zero-acc.ensures ∙ sym (folded_start sha256 filler c.args.n (by_node (g.S.Source.hash_at c.args.source.now)))

pub loop-h-preserved : goal.loop-h-preserved
loop-h-preserved g c =
    let held = by_node (g.S.Source.hash_at c.args.source.now) in
    rw (add-one c.loop-h.h)
    (c.fold-acc.ensures ∙ ap (folded sha256 filler c.args.n held c.loop-h.h) c.loop-h.invariant ∙ folded-given sha256 filler c.args.n held c.loop-h.h)

pub returns : goal.returns
returns g c =
    let held = by_node (g.S.Source.hash_at c.args.source.now) in
    let e : c.loop-h.h ≡ c.args.top = omega arith in
    c.loop-h.invariant ∙ ap (λ (x : ℕ). given sha256 filler c.args.n held x (above x c.args.n)) e
    ∙ ap (given sha256 filler c.args.n held c.args.top) (above-top c.args.top c.args.n (omega arith))
