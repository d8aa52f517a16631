use Rattle.std.proofs.Common.{refl, rules}
use Rattle.hash.specs.Word.{◌⊞◌, σ0, σ1, word32, words}
use Rattle.hash.specs.Block.{next, extended}
use Rattle.hash.specs.Rows.{next_sixteen}
use Rattle.hash.specs.Message.{padded}
use Rattle.hash.proofs.EndLaws.{parent_law}
use Rattle.hash.proofs.node.parent.Goals as goal

pub returns : goal.returns
unfolding ◌⊞◌ σ0 σ1 word32 words next extended next_sixteen padded
returns c = parent_law c.args.left.words c.args.right.words _ _ (search rules) (search rules) (record { first = refl; second = refl; third = refl; fourth = refl }) c.pair_bytes-m.ensures c.initial.ensures c.blocks-v.ensures c.mix.ensures
