-- What the crates above know of this one: these laws, and of its definitions the names passed on here, unopened.
-- Assumes nothing.
use Prim.Native.Nat.{ℕ, suc, ◌+◌, ◌-◌, ◌*◌, ◌≤◌, ◌<◌}
use native.Mathlib.Omega.{arith}
use mathlib.Core.Path.{◌≡◌}
use mathlib.Core.Logic.{◌≢◌}
use mathlib.Core.List.{List}
use mathlib.Core.Bool.{true, false}
use lib.ListN.{length, get_or}
use Rattle.bits.proofs.RowLaws as row
use Rattle.bits.proofs.FillLaws.{length-fill, fill-out, cleared_in, cleared-bit, cleared-bit-out}
use Rattle.bits.proofs.RunLaws.{setting, clearing, length_run, run_in, run_out}
use Rattle.bits.proofs.CountLaws as counting
use Rattle.bits.proofs.HeldLaws as held
pub use Rattle.bits.specs.Bits.{bit_at, set_bit, clear_bit, set_range, clear_range, clear_words, one, count_bits, row_words}
pub use Rattle.bits.specs.Bits.{held_below, held_from}

-- ---- one bit

-- Past the row no bit is set.
pub bit_at-past : (ws : List ℕ) (i : ℕ) → length ws * 32 ≤ i → bit_at ws i ≡ false
bit_at-past = row.bit_at-past

-- Setting a bit past the row has no effect.
pub set_bit-past : (ws : List ℕ) (i : ℕ) → length ws * 32 ≤ i → set_bit ws i ≡ ws
set_bit-past = row.set_bit-past

-- Clearing a bit past the row has no effect.
pub clear_bit-past : (ws : List ℕ) (i : ℕ) → length ws * 32 ≤ i → clear_bit ws i ≡ ws
clear_bit-past = row.clear_bit-past

-- Setting a bit keeps the row's length.
pub length-set_bit : (ws : List ℕ) (i : ℕ) → length (set_bit ws i) ≡ length ws
length-set_bit = row.length-set_bit

-- Clearing a bit keeps the row's length.
pub length-clear_bit : (ws : List ℕ) (i : ℕ) → length (clear_bit ws i) ≡ length ws
length-clear_bit = row.length-clear_bit

-- Setting a bit of the row sets it.
pub bit_at-set-same : (ws : List ℕ) (i : ℕ) → i < length ws * 32 → bit_at (set_bit ws i) i ≡ true
bit_at-set-same = row.bit_at-set-same

-- Setting a bit leaves the others.
pub bit_at-set-other : (ws : List ℕ) (i j : ℕ) → j ≢ i → bit_at (set_bit ws i) j ≡ bit_at ws j
bit_at-set-other = row.bit_at-set-other

-- Clearing a bit of the row clears it.
pub bit_at-clear-same : (ws : List ℕ) (i : ℕ) → i < length ws * 32 → bit_at (clear_bit ws i) i ≡ false
bit_at-clear-same = row.bit_at-clear-same

-- Clearing a bit leaves the others.
pub bit_at-clear-other : (ws : List ℕ) (i j : ℕ) → j ≢ i → bit_at (clear_bit ws i) j ≡ bit_at ws j
bit_at-clear-other = row.bit_at-clear-other

-- ---- a run of bits

-- Setting a run keeps the row's length.
pub length-set_range : (ws : List ℕ) (a b : ℕ) → length (set_range ws a b) ≡ length ws
unfolding set_range
length-set_range ws a b = length_run _ _ setting (b - a) a ws

-- Clearing a run keeps the row's length.
pub length-clear_range : (ws : List ℕ) (a b : ℕ) → length (clear_range ws a b) ≡ length ws
unfolding clear_range
length-clear_range ws a b = length_run _ _ clearing (b - a) a ws

-- Setting a run sets each bit of it that the row has.
pub bit_at-set_range_in : (ws : List ℕ) (a b j : ℕ) → a ≤ j → j < b → j < length ws * 32 → bit_at (set_range ws a b) j ≡ true
unfolding set_range
bit_at-set_range_in ws a b j h l m = run_in _ _ setting (b - a) a ws j h (omega arith) m

-- Setting a run leaves the bits outside it.
pub bit_at-set_range-out : (ws : List ℕ) (a b j : ℕ) → (a ≤ j → j < b → ⊥) → bit_at (set_range ws a b) j ≡ bit_at ws j
unfolding set_range
bit_at-set_range-out ws a b j n = run_out _ _ setting (b - a) a ws j (λ h l. n h (omega arith))

-- Clearing a run clears each bit of it that the row has.
pub bit_at-clear_range_in : (ws : List ℕ) (a b j : ℕ) → a ≤ j → j < b → j < length ws * 32 → bit_at (clear_range ws a b) j ≡ false
unfolding clear_range
bit_at-clear_range_in ws a b j h l m = run_in _ _ clearing (b - a) a ws j h (omega arith) m

-- Clearing a run leaves the bits outside it.
pub bit_at-clear_range-out : (ws : List ℕ) (a b j : ℕ) → (a ≤ j → j < b → ⊥) → bit_at (clear_range ws a b) j ≡ bit_at ws j
unfolding clear_range
bit_at-clear_range-out ws a b j n = run_out _ _ clearing (b - a) a ws j (λ h l. n h (omega arith))

-- Clearing words keeps the row's length.
pub length-clear_words : (ws : List ℕ) (a b : ℕ) → length (clear_words ws a b) ≡ length ws
unfolding clear_words
length-clear_words ws a b = length-fill 0 (b - a) a ws

-- Clearing words clears each bit of them.
pub bit_at-clear_words_in : (ws : List ℕ) (a b j : ℕ) → 32 * a ≤ j → j < 32 * b → bit_at (clear_words ws a b) j ≡ false
unfolding clear_words
bit_at-clear_words_in ws a b j h l = cleared-bit (b - a) a ws j h (omega arith)

-- Clearing words leaves the bits outside them.
pub bit_at-clear_words-out : (ws : List ℕ) (a b j : ℕ) → (32 * a ≤ j → j < 32 * b → ⊥) → bit_at (clear_words ws a b) j ≡ bit_at ws j
unfolding clear_words
bit_at-clear_words-out ws a b j n = cleared-bit-out (b - a) a ws j (λ h l. n h (omega arith))

-- Word by word: those cleared are 0, and the others stay.
pub clear_words_in : (ws : List ℕ) (a b i : ℕ) → a ≤ i → i < b → get_or (clear_words ws a b) i 0 ≡ 0
unfolding clear_words
clear_words_in ws a b i h l = cleared_in (b - a) a ws i h (omega arith)

pub clear_words-before : (ws : List ℕ) (a b i : ℕ) → i < a → get_or (clear_words ws a b) i 0 ≡ get_or ws i 0
unfolding clear_words
clear_words-before ws a b i h = fill-out 0 (b - a) a ws i (λ p q. omega arith)

-- ---- how many

-- A count goes up by one at each bit that is set.
pub count-more : (ws : List ℕ) (n : ℕ) → count_bits ws (suc n) ≡ count_bits ws n + one (bit_at ws n)
count-more = counting.count-more

-- Among n bits no more than n are set.
pub count_le : (ws : List ℕ) (n : ℕ) → count_bits ws n ≤ n
count_le = counting.count_le

-- Where every one of n bits is set, n are.
pub count_full : (ws : List ℕ) (n : ℕ) → ((i : ℕ) → i < n → bit_at ws i ≡ true) → count_bits ws n ≡ n
count_full = counting.count_full

-- Where n of n bits are set, every one is.
pub full_count : (ws : List ℕ) (n : ℕ) → count_bits ws n ≡ n → (i : ℕ) → i < n → bit_at ws i ≡ true
full_count = counting.full_count

-- Two rows with the same first n bits have the same count of them.
pub count-agree : (ws us : List ℕ) (n : ℕ) → ((i : ℕ) → i < n → bit_at ws i ≡ bit_at us i) → count_bits ws n ≡ count_bits us n
count-agree = counting.count-agree

-- A row of at least that many words has room for n bits.
pub row_room : (ws : List ℕ) (n : ℕ) → row_words n ≤ length ws → n ≤ length ws * 32
row_room = counting.row_room

-- No fewer words have room for n bits.
pub row_least : (n k : ℕ) → n ≤ k * 32 → row_words n ≤ k
row_least = counting.row_least

-- A row's words hold its bits, and less than a word besides.
pub row_words_lem : (n : ℕ) → (n ≤ 32 * row_words n) × (32 * row_words n ≤ n + 31)
row_words_lem = counting.row_words_lem

-- ---- a run of set bits

-- Below a place there are no more than its number.
pub held-below_le : (ws : List ℕ) (c : ℕ) → held_below ws c ≤ c
held-below_le = held.held-below_le

-- Every bit of the run below a place is set.
pub held-below-set : (ws : List ℕ) (c j : ℕ) → j < c → c ≤ j + held_below ws c → bit_at ws j ≡ true
held-below-set = held.held-below-set

-- The bit below the run is clear.
pub held-below_stop : (ws : List ℕ) (c j : ℕ) → suc j + held_below ws c ≡ c → bit_at ws j ≡ false
held-below_stop = held.held-below_stop

-- Of d bits no more than d are in the run.
pub held-from_le : (ws : List ℕ) (d x : ℕ) → held_from ws d x ≤ d
held-from_le = held.held-from_le

-- Every bit of the run from a place on is set.
pub held-from-set : (ws : List ℕ) (d x j : ℕ) → x ≤ j → j < x + held_from ws d x → bit_at ws j ≡ true
held-from-set = held.held-from-set

-- The bit behind the run is clear, if it is one of the d.
pub held-from_stop : (ws : List ℕ) (d x : ℕ) → held_from ws d x < d → bit_at ws (x + held_from ws d x) ≡ false
held-from_stop = held.held-from_stop
