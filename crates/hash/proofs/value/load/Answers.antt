use Rattle.std.proofs.Common.{rules}
use Rattle.hash.proofs.BytesLaws.{load_law}
use Rattle.hash.proofs.value.load.Goals as goal

pub returns : goal.returns
returns c = load_law c.args.b.now c.args.at _ (search rules) (λ i h. search rules)
