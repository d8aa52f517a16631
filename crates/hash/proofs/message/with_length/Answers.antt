use Rattle.std.proofs.Common.{◌≡◌, length, ◌∙◌, arith, rules}
use Rattle.hash.specs.Word.{be}
use Rattle.hash.proofs.BytesLaws.{be_8, put_sets}
use Rattle.hash.proofs.message.with_length.Goals as goal

pub returns : goal.returns
returns c = let l : length c.args.b ≡ 128 = search rules in
    put_sets c.args.b (be 8 c.args.x) c.args.at _ (c.copy_from_slice.ensures.after ∙ c.to_be_bytes.ensures ∙ be_8 c.args.x) (omega arith) (omega (arith, c.requires, l))
