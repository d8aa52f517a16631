-- Nothing of the papers: setting and clearing as one change, the bits of a word that the code changes at once, and the words
-- of ones at an end of a row. Assumes nothing.
use Rattle.std.specs.Prelude.{◌≡◌, ◌≢◌, ℕ, ◌+◌, ◌-◌, ◌/◌, ◌%◌, ◌^◌, ◌<◌, ◌≤◌, List, Bool, true, false, length, get_or, drop, eqb, replicate}
use Rattle.std.specs.Cmp.Lexicographic.{pointwise}
use Rattle.std.specs.Simd.{first_chunks}
use Rattle.std.specs.Int.Bits.{bit_and, bit_or}
use Rattle.bits.specs.Bits.{set_bit, clear_bit, run}

-- The word whose bits from a up to but not including b are set, and no other.
unfoldable pub mask : ℕ → ℕ → ℕ
mask a b = 2 ^ b - 2 ^ a

-- The word w with the bits from a up to but not including b set.
unfoldable pub with_bits : ℕ → ℕ → ℕ → ℕ
with_bits w a b = bit_or w (mask a b)

-- The word w with the bits from a up to but not including b, at most 32, clear.
unfoldable pub without_bits : ℕ → ℕ → ℕ → ℕ
without_bits w a b = bit_and w (2 ^ 32 - 1 - mask a b)

-- The word w with the bits of the word m set, if so, else clear.
abbrev pub change_word : Bool → (w m : ℕ) → ℕ
change_word true w m = bit_or w m
change_word false w m = bit_and w (2 ^ 32 - 1 - m)

-- The row with bit i set, if so, else clear.
abbrev pub change_bit : Bool → List ℕ → ℕ → List ℕ
change_bit true = set_bit
change_bit false = clear_bit

-- The row with the bits from a up to but not including b set, if so, else clear.
unfoldable pub change_range : Bool → List ℕ → (a b : ℕ) → List ℕ
change_range v ws a b = run (change_bit v) (b - a) a ws

-- Whether a word, and whether a block of eight words, is all ones.
abbrev pub is_ones : ℕ → Bool
is_ones x = eqb x (2 ^ 32 - 1)

abbrev pub is_block : List ℕ → Bool
is_block b = pointwise eqb b (replicate 8 (2 ^ 32 - 1))

-- The blocks of eight words that a row has, from its front on, and up to its end.
abbrev pub front_blocks : List ℕ → List (List ℕ)
front_blocks ws = first_chunks 8 (length ws / 8) ws

abbrev pub end_blocks : List ℕ → List (List ℕ)
end_blocks ws = first_chunks 8 (length ws / 8) (drop (length ws % 8) ws)

-- Each of the n words from word w on is all ones.
abbrev pub AllOnes : List ℕ → (w n : ℕ) → Type 0
AllOnes ws w n = (j : ℕ) → j < n → get_or ws (w + j) 0 ≡ 2 ^ 32 - 1

-- The n words in front are all ones, and the word behind them, if there is one, is not.
pub record OnesInFront (ws : List ℕ) (n : ℕ) : Type 0 where
  pub fits : n ≤ length ws
  pub ones : AllOnes ws 0 n
  pub stop : n < length ws → get_or ws n 0 ≢ 2 ^ 32 - 1

-- The n words at the end are all ones, and the word before them, if there is one, is not.
pub record OnesAtEnd (ws : List ℕ) (n : ℕ) : Type 0 where
  pub fits : n ≤ length ws
  pub ones : AllOnes ws (length ws - n) n
  pub stop : n < length ws → get_or ws (length ws - n - 1) 0 ≢ 2 ^ 32 - 1
