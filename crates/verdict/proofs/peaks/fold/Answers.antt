use Rattle.std.proofs.Common.{List, ◌++◌, sym, ap, ◌∙◌, ℕ, ne_eqb}
use Rattle.hash.proofs.Promise.{sha256, bytes_of}
use Rattle.tree.specs.Node.{above}
use Rattle.tree.specs.Steps.{peak_bit}
use Rattle.verdict.specs.Room.{filler}
use Rattle.verdict.proofs.LoopLaws.{none-then}
use Rattle.verdict.proofs.peaks.fold.Goals as goal

pub returns : goal.returns
unfolding filler
returns g c =
    rw (none-then (peak_bit c.args.n c.args.h) _ (sym c.in_default.ensures), ne_eqb (above c.args.h c.args.n) c.args.n (λ q. c.if-above-from.false (c.above.ensures.0 ∙ q ∙ sym c.from.ensures)))
    (c.parent-2.ensures ∙ ap (λ (x : List ℕ). sha256 (bytes_of c.args.acc.words ++ x)) c.zero.ensures)
