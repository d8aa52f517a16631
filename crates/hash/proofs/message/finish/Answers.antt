use Rattle.std.proofs.Common.{◌*◌, ◌/◌, length, refl, ◌∙◌, arith, length-drop}
use Rattle.hash.specs.Word.{◌⊞◌, σ0, σ1, word32, words}
use Rattle.hash.specs.Block.{next, extended}
use Rattle.hash.specs.Rows.{next_sixteen}
use Rattle.hash.specs.Message.{padded}
use Rattle.hash.proofs.MessageLaws.{finish_law, rest_is}
use Rattle.hash.proofs.EndLaws.{end_law}
use Rattle.hash.proofs.message.finish.Goals as goal

pub returns-then-n-eq1024 : goal.returns-then-n-eq1024
unfolding ◌⊞◌ σ0 σ1 word32 words next extended next_sixteen padded
returns-then-n-eq1024 c = finish_law _ c.args.tail.now _ (length c.args.tail.now / 64) refl c.blocks-u.ensures (rw c.if-n-eq1024.true (end_law _ _ 1024 _ (simp length-drop (omega arith)) (record { first = refl; second = refl; third = refl; fourth = refl }) c.mix.ensures))

pub returns : goal.returns
returns c = finish_law _ c.args.tail.now _ (length c.args.tail.now / 64) refl c.blocks-u.ensures (c.pad.ensures ∙ rw (rest_is (64 * (length c.args.tail.now / 64)) c.args.tail.now))
