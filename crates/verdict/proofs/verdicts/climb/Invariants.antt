use Rattle.std.proofs.Common.{◌≡◌}
use Rattle.hash.proofs.Promise.{sha256, bytes_of}
use Rattle.tree.specs.Tree.{climb}
use Rattle.verdict.specs.Integrity.{integrity_in}
use Rattle.verdict.specs.Steps.{got_by, kept}
use Rattle.verdict.proofs.verdicts.climb.Given as goal

abbrev pub invariant-loop-h : goal.invariant-loop-h
invariant-loop-h l =
    (bytes_of l.acc.words ≡ climb sha256 (got_by (integrity_in l.integrity)) (bytes_of l.initial.acc.words) l.c l.h)
    × (l.scratch ≡ kept l.initial.scratch (got_by (integrity_in l.integrity)) (bytes_of l.initial.acc.words) l.c l.h)
