-- The set bits of a row are the ones of its words. Assumes nothing.
use Prim.Native.Nat.{ℕ, zero, suc, ◌+◌, ◌-◌, ◌*◌, ◌/◌, ◌%◌, ◌^◌, ◌≤◌, ◌<◌, min}
use native.Mathlib.Nat.{add-suc, add-zero, mod-lt, mod-eq_of_lt}
use native.Mathlib.Numerals.{one-add, add-one}
use native.Mathlib.Omega.{arith}
use native.Mathlib.Decide.{dec_lt}
use mathlib.Core.Path.{◌≡◌, refl, sym, ap, ◌∙◌}
use mathlib.Core.List.{List}
use lib.ListN.{length, get_or, get_or-eq_default}
use lib.Dec.{eqb}
use lib.Pow.{pow_pos, mod-pow-add}
use lib.Count.{ones, ones_cat, ones-le}
use Rattle.bits.specs.Bits.{bit, bit_at, one, count_bits, ones_over, ones_below}
use Rattle.bits.proofs.WordLaws.{bit_lt, shl_one}

-- ---- one word

ones_of_bit : (b : ℕ) → b < 2 → ones b ≡ one (eqb b 1)
unfolding ones
ones_of_bit zero h = refl
ones_of_bit (suc zero) h = refl
ones_of_bit (suc (suc b)) h = absurd (omega arith)

-- One bit more.
ones-more : (x k : ℕ) → ones (x % 2 ^ suc k) ≡ ones (x % 2 ^ k) + one (eqb (bit x k) 1)
unfolding bit
ones-more x k =
    ap (λ (n : ℕ). ones (x % 2 ^ n)) (sym (one-add k))
    ∙ ap ones (mod-pow-add x 1 k) ∙ ones_cat k (x / 2 ^ k % 2) (x % 2 ^ k) (mod-lt x (pow_pos k))
    ∙ ap (λ (n : ℕ). n + ones (x % 2 ^ k)) (ones_of_bit (x / 2 ^ k % 2) (bit_lt x k)) ∙ omega arith

-- ---- a row

-- The first k bits of word w.
count_word : (ws : List ℕ) (w k : ℕ) → k ≤ 32 → count_bits ws (32 * w + k) ≡ count_bits ws (32 * w) + ones (get_or ws w 0 % 2 ^ k)
unfolding count_bits bit_at ones
count_word ws w zero h = let z : get_or ws w 0 % 1 ≡ 0 = omega arith in rw (add-zero (32 * w), z) (sym (add-zero _))
count_word ws w (suc k) h =
    let p : (32 * w + k) / 32 ≡ w = omega arith in
    let q : (32 * w + k) % 32 ≡ k = omega arith in
    rw (add-suc (32 * w) k, p, q, count_word ws w k (omega arith), ones-more) (omega arith)

count-words : (ws : List ℕ) (w : ℕ) → ones_over ws w ≡ count_bits ws (32 * w)
unfolding ones_over count_bits
count-words ws zero = refl
count-words ws (suc w) =
    let e : 32 * suc w ≡ 32 * w + 32 = omega arith in
    rw (e, count-words ws w) (sym (count_word ws w 32 (omega arith)))

pub words_count : (ws : List ℕ) (n : ℕ) → ones_below ws n ≡ count_bits ws n
unfolding ones_below
words_count ws n =
    let e : 32 * (n / 32) + n % 32 ≡ n = omega arith in
    rw (count-words ws (n / 32)) (rw e at (sym (count_word ws (n / 32) (n % 32) (omega arith))))

-- ---- the loop over the words that the row has

pub over_none : (ws : List ℕ) → 0 ≡ ones_over ws 0
unfolding ones_over
over_none ws = refl

pub over-turn : (ws : List ℕ) (w : ℕ) {s : ℕ} → get_or ws w 0 < 2 ^ 32 → s ≡ ones_over ws w → s + ones (get_or ws w 0) ≡ ones_over ws (w + 1)
unfolding ones_over
over-turn ws w h e = rw (add-one w, mod-eq_of_lt h, e)

-- Past the row there are none.
over-past : (ws : List ℕ) (w d : ℕ) → length ws ≤ w → ones_over ws (w + d) ≡ ones_over ws w
unfolding ones_over ones
over-past ws w zero h = rw add-zero
over-past ws w (suc d) h =
    let l : length ws ≤ w + d = omega arith in
    rw (add-suc w d, get_or-eq_default ws 0 l, add-zero) (over-past ws w d h)

pub over_end : (ws : List ℕ) (n w : ℕ) {s : ℕ} → w ≡ min n (length ws) → s ≡ ones_over ws w → s ≡ ones_over ws n
over_end ws n w k e = elim (dec_lt w n) [
  | yes l ↦ let m : w + (n - w) ≡ n = omega arith in e ∙ rw m at (sym (over-past ws w (n - w) (omega arith)))
  | no l ↦ let m : w ≡ n = omega arith in rw m at e
]

-- ---- as the code has it

-- The low bits of a word.
pub low_pos : (k : ℕ) → k < 32 → 0 < 1 * 2 ^ k % 2 ^ 32
low_pos k h = rw (shl_one 32 k h) (pow_pos k)

pub low-ones_le : (x k : ℕ) → k < 32 → ones (x % (1 * 2 ^ k % 2 ^ 32)) ≤ k
low-ones_le x k h = rw (shl_one 32 k h) (ones-le k (x % 2 ^ k) (mod-lt x (pow_pos k)))

pub count_is : (ws : List ℕ) (n : ℕ) {s x : ℕ} → s ≡ ones_over ws (n / 32) → x ≡ get_or ws (n / 32) 0
    → s + ones (x % (1 * 2 ^ (n % 32) % 2 ^ 32)) ≡ count_bits ws n
unfolding ones_below
count_is ws n e g = rw (e, g, shl_one 32 (n % 32) (omega arith)) (words_count ws n)
