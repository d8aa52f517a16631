use Rattle.std.proofs.Common.{rules}
use Rattle.hash.proofs.ScheduleLaws.{slid_law}
use Rattle.hash.proofs.block.step.Goals as goal

pub returns : goal.returns
returns c = record {
  variables = c.round.ensures;
  schedule = slid_law _ _ (search rules) (λ i h. search rules) (search rules);
}
