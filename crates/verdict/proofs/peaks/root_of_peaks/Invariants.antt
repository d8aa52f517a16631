use Rattle.std.proofs.Common.{◌≡◌}
use Rattle.hash.proofs.Promise.{sha256, bytes_of}
use Rattle.tree.specs.Node.{above}
use Rattle.tree.specs.Tree.{given}
use Rattle.verdict.specs.Room.{filler}
use Rattle.verdict.specs.Steps.{by_node}
use Rattle.verdict.proofs.peaks.root_of_peaks.Given as goal

abbrev pub invariant-loop-h : goal.invariant-loop-h
invariant-loop-h g l = bytes_of l.acc.words ≡ given sha256 filler l.n (by_node (g.S.Source.hash_at l.source)) l.h (above l.h l.n)
