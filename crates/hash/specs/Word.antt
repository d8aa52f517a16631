-- FIPS 180-4, sections 2.2.2, 3.1, 3.2 and 4.1.2: words of 32 bits, their bytes, and the operations on them.
-- A word is a number below 2 ^ 32, a byte a number below 2 ^ 8. Assumes nothing.
use Rattle.std.specs.Prelude.{ℕ, zero, suc, ◌+◌, ◌-◌, ◌*◌, ◌/◌, ◌%◌, ◌^◌, ◌<◌, List, [], ◌∷◌, ◌++◌, drop, bit_and, bit_or, bit_xor, slice_index}

-- Each element fits a word of 32 bits.
abbrev pub Words : List ℕ → Type 0
Words w = (i : ℕ) → slice_index w i < 2 ^ 32

-- Each element fits a byte.
abbrev pub Bytes : List ℕ → Type 0
Bytes s = (i : ℕ) → slice_index s i < 2 ^ 8

-- 3.1: the word whose four bytes, the highest first, stand at a place.
unfoldable pub word32 : List ℕ → ℕ → ℕ
word32 b at = slice_index b at * 2 ^ 24 + slice_index b (at + 1) * 2 ^ 16 + slice_index b (at + 2) * 2 ^ 8 + slice_index b (at + 3)

-- 3.1: the first n words of a list of bytes.
unfoldable pub words : ℕ → List ℕ → List ℕ
words zero b = []
words (suc n) b = word32 b 0 ∷ words n (drop 4 b)

-- 3.1: n bytes of a number, the highest first.
abbrev pub be : ℕ → ℕ → List ℕ
be zero x = []
be (suc n) x = x / 2 ^ (8 * n) % 2 ^ 8 ∷ be n x

-- 3.1: the bytes of a list of words.
unfoldable pub bytes_of : List ℕ → List ℕ
bytes_of [] = []
bytes_of (x ∷ w) = be 4 x ++ bytes_of w

infixl 60 ◌⊞◌
-- 3.2: addition modulo 2 ^ 32.
unfoldable pub ◌⊞◌ : ℕ → ℕ → ℕ
x ⊞ y = (x + y) % 2 ^ 32

-- 2.2.2: the complement of a word.
abbrev pub NOT : ℕ → ℕ
NOT x = (2 ^ 32 - 1) - x

-- 3.2: the word shifted right by n bits.
abbrev pub SHR : ℕ → ℕ → ℕ
SHR n x = x / 2 ^ n

-- 3.2: the word rotated right by n bits, (x >> n) ∨ (x << 32 - n).
abbrev pub ROTR : ℕ → ℕ → ℕ
ROTR n x = bit_or (x / 2 ^ n) (x * 2 ^ (32 - n) % 2 ^ 32)

-- 4.1.2, (4.2)
unfoldable pub Ch : (x y z : ℕ) → ℕ
Ch x y z = bit_xor (bit_and x y) (bit_and (NOT x) z)

-- 4.1.2, (4.3)
unfoldable pub Maj : (x y z : ℕ) → ℕ
Maj x y z = bit_xor (bit_xor (bit_and x y) (bit_and x z)) (bit_and y z)

-- 4.1.2, (4.4)
unfoldable pub Σ0 : ℕ → ℕ
Σ0 x = bit_xor (bit_xor (ROTR 2 x) (ROTR 13 x)) (ROTR 22 x)

-- 4.1.2, (4.5)
unfoldable pub Σ1 : ℕ → ℕ
Σ1 x = bit_xor (bit_xor (ROTR 6 x) (ROTR 11 x)) (ROTR 25 x)

-- 4.1.2, (4.6)
unfoldable pub σ0 : ℕ → ℕ
σ0 x = bit_xor (bit_xor (ROTR 7 x) (ROTR 18 x)) (SHR 3 x)

-- 4.1.2, (4.7)
unfoldable pub σ1 : ℕ → ℕ
σ1 x = bit_xor (bit_xor (ROTR 17 x) (ROTR 19 x)) (SHR 10 x)
