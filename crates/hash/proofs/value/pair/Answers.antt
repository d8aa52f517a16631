use Rattle.std.proofs.Common.{refl, rules}
use Rattle.hash.proofs.BytesLaws.{pair_law}
use Rattle.hash.proofs.value.pair.Goals as goal

pub returns : goal.returns
returns c = pair_law 8 c.args.left.words c.args.right.words _ (search rules) refl c.copy_from_slice.ensures.after c.copy_from_slice-2.ensures.after
