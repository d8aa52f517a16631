-- What the crates above know of this one: these laws, and of its definitions the names passed on here. `Words`, `Bytes` and
-- `H0` are short for what they stand for; the others stay shut, and only the laws below say what they are. Assumes nothing.
use Rattle.std.proofs.Common.{◌≡◌, ℕ, zero, suc, ◌*◌, ◌/◌, ◌%◌, ◌^◌, ◌<◌, ◌≤◌, List, [], ◌∷◌, ◌++◌, length, get_or, take, replicate, sym, refl, ap, ◌∙◌, div-one}
use Rattle.hash.specs.Block.{sums, mixed, compressed}
use Rattle.hash.specs.Message.{padded, hashed}
use Rattle.hash.specs.Sha256.{sha256_is}
use Rattle.hash.proofs.MessageLaws.{finished-append}
use Rattle.hash.proofs.BytesLaws as bytes
use Rattle.hash.proofs.SameLaws as same-laws
pub use Rattle.base.specs.Same.{same}
pub use Rattle.base.proofs.SameLaws.{same_refl, same_not, same_is}
pub use Rattle.hash.specs.Word.{Words, Bytes, words, bytes_of}
pub use Rattle.hash.specs.Message.{H0, after, finished}
pub use Rattle.hash.specs.Sha256.{sha256}

-- ---- SHA-256

after-length : (n : ℕ) (m : List ℕ) → length (after H0 n m) ≡ 8
unfolding after compressed mixed sums
after-length zero m = refl
after-length (suc n) m = refl

hashed_length : (m : List ℕ) → length (hashed m) ≡ 8
unfolding hashed finished
hashed_length m = after-length (length (padded m (length m)) / 64) (padded m (length m))

-- A digest has 32 bytes.
pub sha256-length : (m : List ℕ) → length (sha256 m) ≡ 32
sha256-length m = rw (sha256_is m, bytes.length-bytes (hashed m), hashed_length m)

-- A digest is a list of bytes.
pub sha256-bytes : (m : List ℕ) → Bytes (sha256 m)
sha256-bytes m i = rw (sha256_is m) (bytes.bytes_below (hashed m) i)

-- ---- words and bytes

-- A hash value has four bytes a word.
pub bytes-length : (w : List ℕ) → length (bytes_of w) ≡ 4 * length w
bytes-length = bytes.length-bytes

-- Of zero words they are zeros.
pub bytes_zeros : (n : ℕ) → bytes_of (replicate n 0) ≡ replicate (4 * n) 0
bytes_zeros = bytes.bytes_zeros

-- Of one word more of a list there are that word's bytes more, the highest first.
pub bytes-more : (w : List ℕ) (i : ℕ) → i < length w
    → bytes_of (take (suc i) w) ≡ bytes_of (take i w) ++ (get_or w i 0 / 2 ^ 24 % 2 ^ 8 ∷ get_or w i 0 / 2 ^ 16 % 2 ^ 8 ∷ get_or w i 0 / 2 ^ 8 % 2 ^ 8 ∷ get_or w i 0 % 2 ^ 8 ∷ [])
bytes-more w i h = bytes.written-more w i h ∙ rw (div-one (get_or w i 0))

-- They are bytes.
pub bytes_below : (w : List ℕ) → Bytes (bytes_of w)
bytes_below = bytes.bytes_below

pub words-length : (n : ℕ) (s : List ℕ) → length (words n s) ≡ n
words-length = bytes.length-words

-- The words of bytes fit 32 bits.
pub words-below : (n : ℕ) (s : List ℕ) → Bytes s → Words (words n s)
words-below = bytes.words-below

-- The words of the bytes of words are those words.
pub words-bytes : (w : List ℕ) → Words w → words (length w) (bytes_of w) ≡ w
words-bytes = bytes.words-bytes

-- The bytes of the words of bytes are those bytes.
pub bytes-words : (n : ℕ) (s : List ℕ) → Bytes s → 4 * n ≤ length s → bytes_of (words n s) ≡ take (4 * n) s
bytes-words = bytes.bytes-words

-- Equal bytes, equal words.
pub bytes_injective : (u v : List ℕ) → Words u → Words v → length u ≡ length v → bytes_of u ≡ bytes_of v → u ≡ v
bytes_injective = same-laws.bytes_injective

-- ---- a message block by block

-- The blocks of a, one after the other, and then the end b.
pub sha256-blocks : (a b : List ℕ) (n : ℕ) → length a ≡ 64 * n → sha256 (a ++ b) ≡ bytes_of (finished (after H0 n a) b (length (a ++ b)))
unfolding hashed
sha256-blocks a b n e = sha256_is (a ++ b) ∙ ap bytes_of (sym (finished-append H0 a b (length (a ++ b)) n e))
