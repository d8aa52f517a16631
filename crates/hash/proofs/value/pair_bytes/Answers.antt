use Rattle.std.proofs.Common.{◌≡◌, ◌*◌, length, refl, ◌∙◌, ap, rules}
use Rattle.hash.specs.Word.{bytes_of}
use Rattle.hash.proofs.BytesLaws.{length-bytes, pair_law}
use Rattle.hash.proofs.value.pair_bytes.Goals as goal

pub returns : goal.returns
returns c = let l : length c.args.left.words ≡ 8 = search rules in
    pair_law 32 (bytes_of c.args.left.words) (bytes_of c.args.right.words) _ (length-bytes c.args.left.words ∙ ap (λ n. 4 * n) l) refl c.write.ensures c.write-2.ensures
