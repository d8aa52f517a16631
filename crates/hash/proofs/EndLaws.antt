-- The block that ends a message of whole blocks holds nothing of it but its length, so that its schedule may be known
-- beforehand. Assumes nothing.
use Rattle.std.proofs.Common.{◌≡◌, ℕ, ◌/◌, List, [], ◌∷◌, ◌++◌, length, drop, sym, refl, ap, ◌∙◌, arith, length-append, drop_of_length-le}
use Rattle.hash.specs.Word.{words, bytes_of}
use Rattle.hash.specs.Block.{schedule, mixed, compressed}
use Rattle.hash.specs.Rows.{mixed_sums}
use Rattle.hash.specs.Message.{H0, padded, after, finished, hashed}
use Rattle.hash.specs.Sha256.{sha256, sha256_is}
use Rattle.hash.proofs.BytesLaws.{length-words, length-bytes}
use Rattle.hash.proofs.BlockLaws.{Sums, known-sums}
use Rattle.hash.proofs.MessageLaws.{finish_law}

-- The words of the block that ends a message of n bytes, all in whole blocks.
abbrev pub end_words : ℕ → List ℕ
end_words n = words 16 (padded [] n)

one_block : (v : List ℕ) (n : ℕ) → finished v [] n ≡ mixed v (schedule (end_words n))
unfolding finished after padded compressed
one_block v n = refl

pub end_law : (v tail : List ℕ) (n : ℕ) (s : List (List ℕ)) {r : List ℕ} → length tail ≡ 0 → Sums (end_words n) s
    → r ≡ mixed_sums v s
    → r ≡ finished v tail n
end_law v [] n s l k e = e ∙ known-sums v (end_words n) s (length-words 16 (padded [] n)) k ∙ sym (one_block v n)
end_law v (x ∷ tail) n s l k e = absurd (omega arith)

pub parent_law : (left right m : List ℕ) (s : List (List ℕ)) {h v r : List ℕ} → length left ≡ 8 → length right ≡ 8
    → Sums (end_words 64) s
    → m ≡ bytes_of left ++ bytes_of right
    → h ≡ H0
    → v ≡ after h (length m / 64) m
    → r ≡ mixed_sums v s
    → bytes_of r ≡ sha256 (bytes_of left ++ bytes_of right)
unfolding hashed
parent_law left right m s {h} {v} {r} ll lr k e f g i =
    let lm : length m ≡ 64 = rw (e, length-append (bytes_of left) (bytes_of right), length-bytes left, length-bytes right, ll, lr) in
    let first : v ≡ after H0 1 m = g ∙ rw (f, lm) in
    let rest : length (drop 64 m) ≡ 0 = rw (drop_of_length-le m {i = 64} (omega arith)) in
    let last : r ≡ finished v (drop 64 m) 64 = end_law v (drop 64 m) 64 s rest k i in
    let whole : r ≡ hashed m = finish_law H0 m 64 1 (rw lm) first last ∙ rw lm in
    rw (← e) (ap bytes_of whole ∙ sym (sha256_is m))
