-- The rooms for what the peers have and want have few words. Assumes nothing.
use Rattle.std.proofs.Common.{◌≡◌, ℕ, ◌*◌, ◌^◌, ◌<◌, arith}
use Rattle.bits.proofs.Promise.{row_words, row_words_lem}
use Rattle.table.proofs.Promise.{row_count}

-- Sixteen rows of a 32-bit number of bits have less than 2^33 words.
pub rows_small : (n w : ℕ) → w ≡ row_words n → n < 2 ^ 32 → row_count * w < 2 ^ 33
rows_small n w e l = omega (arith, row_words_lem n)
