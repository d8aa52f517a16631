use Rattle.std.proofs.Common.{◌≡◌, [], ◌++◌}
use Rattle.base.specs.Pick.{pick}
use Rattle.tree.specs.Peaks.{peaks, siblings, sort}
use Rattle.tree.specs.Verdicts.{is_missing, first_of}
use Rattle.tree.proofs.Below.{needed_below}
use Rattle.verdict.specs.Integrity.{integrity_in, came_from}
use Rattle.verdict.proofs.verdicts.first_missing.Given as goal

abbrev pub invariant-loop-h : goal.invariant-loop-h
invariant-loop-h l =
    first_of (is_missing (came_from (integrity_in l.integrity))) (sort (pick l.place.opened [] (peaks l.place.n) ++ siblings l.place.c l.t))
    ≡ first_of (is_missing (came_from (integrity_in l.integrity))) (needed_below l.place.opened l.place.n l.place.c l.t l.h)
