use Rattle.std.proofs.Common.{◌≡◌, ℕ, [], get_or}
use Rattle.hash.specs.Rows.{summed_runs}
use Rattle.hash.proofs.block.mix.Given as goal

abbrev pub invariant-loop-row : goal.invariant-loop-row
invariant-loop-row l = l.u.words ≡ summed_runs l.row-index l.v.words (λ (n : ℕ). get_or l.s n [])
