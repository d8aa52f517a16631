-- 01, "What a store works under": bit rows in "32-bit words; N bits a row, .. every row in whole words, low bit first".
-- A row is a list of words, a word a number below 2 ^ 32. Assumes nothing.
use Rattle.std.specs.Prelude.{ℕ, zero, suc, ◌+◌, ◌-◌, ◌/◌, ◌%◌, ◌^◌, List, Bool, true, false, get_or, set, eqb}
use Rattle.std.specs.Int.Bits.{bit_and, bit_or}
use Rattle.std.specs.Int.Count.{ones}

-- ---- one word

-- Bit k of the word w, bit 0 the lowest.
unfoldable pub bit : ℕ → ℕ → ℕ
bit w k = w / 2 ^ k % 2

-- The word w with bit k set.
unfoldable pub with_bit : ℕ → ℕ → ℕ
with_bit w k = bit_or w (2 ^ k)

-- The word w with bit k, below 32, clear.
unfoldable pub without_bit : ℕ → ℕ → ℕ
without_bit w k = bit_and w (2 ^ 32 - 1 - 2 ^ k)

-- ---- one bit of a row

-- Whether bit i of a row is set: it is bit i % 32 of word i / 32, and past the row's last word no bit is set.
unfoldable pub bit_at : List ℕ → ℕ → Bool
bit_at ws i = eqb (bit (get_or ws (i / 32) 0) (i % 32)) 1

-- The row with bit i set; a row that has no such word stays as it is.
unfoldable pub set_bit : List ℕ → ℕ → List ℕ
set_bit ws i = set ws (i / 32) (with_bit (get_or ws (i / 32) 0) (i % 32))

-- The row with bit i clear; a row that has no such word stays as it is.
unfoldable pub clear_bit : List ℕ → ℕ → List ℕ
clear_bit ws i = set ws (i / 32) (without_bit (get_or ws (i / 32) 0) (i % 32))

-- ---- a run of bits

-- The row after the change f at each of n places from i on.
unfoldable pub run : (List ℕ → ℕ → List ℕ) → ℕ → ℕ → List ℕ → List ℕ
run f zero i ws = ws
run f (suc n) i ws = f (run f n i ws) (i + n)

-- The row with the bits from a up to but not including b set.
unfoldable pub set_range : List ℕ → ℕ → ℕ → List ℕ
set_range ws a b = run set_bit (b - a) a ws

-- The row with the bits from a up to but not including b clear.
unfoldable pub clear_range : List ℕ → ℕ → ℕ → List ℕ
clear_range ws a b = run clear_bit (b - a) a ws

-- The row with the words from a up to but not including b zero; words past its end are left out.
unfoldable pub clear_words : List ℕ → ℕ → ℕ → List ℕ
clear_words ws a b = run (λ l w. set l w 0) (b - a) a ws

-- ---- how many

-- What a bit adds to a count.
abbrev pub one : Bool → ℕ
one true = 1
one false = 0

-- How many of the first n bits of a row are set.
unfoldable pub count_bits : List ℕ → ℕ → ℕ
count_bits ws zero = 0
count_bits ws (suc n) = count_bits ws n + one (bit_at ws n)

-- 02, No. 4, "the language's count of ones over the map's words": of the first w words of a row, of each its 32 bits.
unfoldable pub ones_over : List ℕ → ℕ → ℕ
ones_over ws zero = 0
ones_over ws (suc w) = ones_over ws w + ones (get_or ws w 0 % 2 ^ 32)

-- "bits past N left out": of the words that n bits fill all ones, and of the next word those of its n % 32 low bits.
-- "this sum is the number of set map bits": `words_count` in proofs/WordCountLaws.
unfoldable pub ones_below : List ℕ → ℕ → ℕ
ones_below ws n = ones_over ws (n / 32) + ones (get_or ws (n / 32) 0 % 2 ^ (n % 32))

-- How many words a row of n bits takes.
unfoldable pub row_words : ℕ → ℕ
row_words n = (n + 31) / 32

-- ---- a run of set bits

-- The length of a run that begins with this bit and goes on for n more: 0 where the bit is clear.
abbrev pub longer : Bool → ℕ → ℕ
longer true n = suc n
longer false n = 0

-- The length of the run of set bits that ends directly below place c.
unfoldable pub held_below : List ℕ → ℕ → ℕ
held_below ws zero = 0
held_below ws (suc c) = longer (bit_at ws c) (held_below ws c)

-- The length of the run of set bits from place x on, of at most d.
unfoldable pub held_from : List ℕ → ℕ → ℕ → ℕ
held_from ws zero x = 0
held_from ws (suc d) x = longer (bit_at ws x) (held_from ws d (suc x))
