use Rattle.std.proofs.Common.{rules}
use Rattle.hash.proofs.RoundLaws.{sums_law}
use Rattle.hash.proofs.block.sums.Goals as goal

pub returns : goal.returns
returns c = sums_law _ _ _ (search rules) (λ i h. search rules)
