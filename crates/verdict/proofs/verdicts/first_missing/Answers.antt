use Rattle.std.proofs.Common.{sym, ap, ◌∙◌, arith}
use Rattle.tree.specs.Verdicts.{is_missing}
use Rattle.verdict.specs.Integrity.{integrity_in, came_from}
use Rattle.verdict.specs.Steps.{named_node}
use Rattle.verdict.proofs.LoopLaws.{missing-begin, missing-end, missing-sibling, missing-peak, missing-none}
use Rattle.verdict.proofs.verdicts.first_missing.Goals as goal

pub loop-h-init : goal.loop-h-init
loop-h-init c = missing-begin (is_missing (came_from (integrity_in c.args.integrity))) c.args.place.opened c.args.place.n c.args.place.c c.args.t _ (omega arith) c.requires

pub returns-in-Some : goal.returns-in-Some
returns-in-Some c = missing-sibling (is_missing (came_from (integrity_in c.args.integrity))) c.args.place.opened c.args.place.n c.args.place.c c.args.t c.loop-h.h (omega arith) c.missing_sibling.ensures c.in-Some.is ∙ ap named_node (sym c.loop-h.invariant)

pub returns-in-Some-missing_peak : goal.returns-in-Some-missing_peak
returns-in-Some-missing_peak c =
    missing-peak (is_missing (came_from (integrity_in c.args.integrity))) c.args.place.opened c.args.place.n c.args.place.c c.args.t c.loop-h.h (omega arith) c.missing_sibling.ensures c.in_default.is c.missing_peak.ensures c.in-Some-missing_peak.is
    ∙ ap named_node (sym c.loop-h.invariant)

pub loop-h-preserved : goal.loop-h-preserved
loop-h-preserved c =
    c.loop-h.invariant
    ∙ missing-none (is_missing (came_from (integrity_in c.args.integrity))) c.args.place.opened c.args.place.n c.args.place.c c.args.t c.loop-h.h (omega arith) c.missing_sibling.ensures c.in_default.is c.missing_peak.ensures c.in_default-missing_peak.is

pub returns : goal.returns
returns c = missing-end (is_missing (came_from (integrity_in c.args.integrity))) c.args.place.opened c.args.place.n c.args.place.c c.args.t c.loop-h.h (omega arith) ∙ ap named_node (sym c.loop-h.invariant)
