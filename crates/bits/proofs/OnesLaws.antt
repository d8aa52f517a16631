-- The ones at an end of a word, which the zeros at that end of its complement count, as a part of the row's run.
-- Assumes nothing.
use Prim.Native.Nat.{ℕ, zero, suc, ◌+◌, ◌-◌, ◌*◌, ◌/◌, ◌%◌, ◌^◌, ◌≤◌, ◌<◌, min}
use native.Mathlib.Nat.{add-suc, add-zero, mul-one, mul_assoc, mul-mod_left, mod-eq_of_lt, div-one, div-eq_of_lt}
use native.Mathlib.Nat.{lt_of_lt_of_le, pow-suc}
use native.Mathlib.Numerals.{add-one}
use native.Mathlib.Omega.{arith}
use mathlib.Core.Path.{◌≡◌, refl, sym, ap, ◌∙◌}
use mathlib.Core.List.{List}
use lib.ListN.{get_or}
use lib.Dec.{eqb}
use lib.Pow.{pow_pos, pow_mono, shr_lt, shr-shr, shl-shr, field}
use lib.Count.{count_trailing_zeros, count_leading_zeros, under, trailing_le, leading_top, leading_unique}
use Rattle.bits.specs.Bits.{bit, bit_at, longer, held_below, held_from}
use Rattle.bits.proofs.HeldLaws.{below_at, from_at}

-- ---- the zeros at an end of a number

-- A number of ones only has none at its low end.
trailing_ones : (k : ℕ) → count_trailing_zeros k (2 ^ k - 1) ≡ 0
unfolding count_trailing_zeros
trailing_ones zero = refl
trailing_ones (suc k) = let odd : (2 ^ suc k - 1) % 2 ≡ 1 = omega (arith, pow_pos k) in rw odd

-- Twice a number and one has one fewer at its high end.
leading_double : (k a : ℕ) → 2 * a + 1 < 2 ^ k → count_leading_zeros k a ≡ suc (count_leading_zeros k (2 * a + 1))
leading_double k a h =
    let t = leading_top k (2 * a + 1) (omega arith) h in
    sym (leading_unique k a _ t.0 (omega arith) (omega (arith, pow-suc 2 t.0)) t.2)

-- ---- the ones at an end of a word

-- One bit r more, the lowest.
low-more : (r t h n d : ℕ) → r < 2 → min t d ≡ min h n
    → min (under (1 - r) t) (suc d) ≡ min (longer (eqb r 1) h) (suc n)
low-more zero t h n d l e = omega arith
low-more (suc zero) t h n d l e = omega arith
low-more (suc (suc r)) t h n d l e = absurd (omega arith)

-- One bit r more, the highest of b.
high-more : (r b h n : ℕ) → b < 2 ^ 32 → b / 2 ^ 31 ≡ r → count_leading_zeros 32 (2 ^ 32 - 1 - 2 * b % 2 ^ 32) ≡ min h n
    → count_leading_zeros 32 (2 ^ 32 - 1 - b) ≡ min (longer (eqb r 1) h) (suc n)
high-more zero b h n l e i = omega (arith, leading_unique 32 (2 ^ 32 - 1 - b) 0 32 refl (omega arith) (omega arith))
high-more (suc zero) b h n l e i =
    let a : ℕ = 2 ^ 32 - 1 - b in
    let twice : 2 * a + 1 ≡ 2 ^ 32 - 1 - 2 * b % 2 ^ 32 = omega arith in
    omega (arith, rw twice at (leading_double 32 a (omega arith)))
high-more (suc (suc r)) b h n l e i = absurd (omega arith)

-- The word v has the 32 bits of the row from place p on.
module _ (ws : List ℕ) (p v : ℕ) (bits : (k : ℕ) → k < 32 → bit_at ws (p + k) ≡ eqb (v / 2 ^ k % 2) 1) where
  -- The n bits from bit k on.
  low_ones : (m n k d : ℕ) → n ≤ m → n + k ≡ 32 → v < 2 ^ 32
      → min (count_trailing_zeros m (2 ^ m - 1 - v / 2 ^ k)) d ≡ min (held_from ws d (p + k)) n
  unfolding count_trailing_zeros held_from
  low_ones m zero k d h e l =
      let all : k ≡ 32 = omega arith in
      let none : v / 2 ^ k ≡ 0 = div-eq_of_lt (rw all l) in
      let ones : 2 ^ m - 1 - 0 ≡ 2 ^ m - 1 = omega arith in
      rw (none, ones, trailing_ones m) (omega arith)
  low_ones zero (suc n) k d h e l = absurd (omega arith)
  low_ones (suc m) (suc n) k zero h e l = omega arith
  low_ones (suc m) (suc n) k (suc d) h e l =
      let u : ℕ = v / 2 ^ k in
      let fits : u < 2 ^ suc m = lt_of_lt_of_le (shr_lt (suc n) k (rw e l)) (pow_mono h) in
      let low : (2 ^ suc m - 1 - u) % 2 ≡ 1 - u % 2 = omega arith in
      let high : (2 ^ suc m - 1 - u) / 2 ≡ 2 ^ m - 1 - u / 2 = omega arith in
      let next : u / 2 ≡ v / 2 ^ suc k = rw (add-one k) at (shr-shr v k 1) in
      rw (bits k (omega arith), low, high, next, ← add-suc p k)
      (low-more (u % 2) _ _ n d (omega arith) (low_ones m n (suc k) d (omega arith) (omega arith) l))

  -- The n bits below bit n.
  high_ones : (n s : ℕ) → n + s ≡ 32
      → count_leading_zeros 32 (2 ^ 32 - 1 - v * 2 ^ s % 2 ^ 32) ≡ min (held_below ws (p + n)) n
  unfolding held_below count_leading_zeros
  high_ones zero s e = let all : s ≡ 32 = omega arith in rw (all, mul-mod_left v (2 ^ 32)) (omega arith)
  high_ones (suc n) s e =
      let y : ℕ = v * 2 ^ s in
      let all : s + n ≡ 31 = omega arith in
      let down : y / 2 ^ 31 ≡ v / 2 ^ n = rw (all, shl-shr v s) at (sym (shr-shr y s n)) in
      let top : y % 2 ^ 32 / 2 ^ 31 ≡ v / 2 ^ n % 2 = field y 1 31 ∙ ap (λ (x : ℕ). x % 2) down in
      let twice : v * 2 ^ suc s ≡ y * 2 = rw (pow-suc 2 s) (sym (mul_assoc v (2 ^ s) 2)) in
      let next : v * 2 ^ suc s % 2 ^ 32 ≡ 2 * (y % 2 ^ 32) % 2 ^ 32 = omega arith in
      rw (add-suc p n, bits n (omega arith))
      (high-more _ (y % 2 ^ 32) _ n (omega arith) top (rw next at (high_ones n (suc s) (omega arith))))

-- ---- as the code has it

-- Word w has the 32 bits of the row from place 32 * w on.
word_bits : (ws : List ℕ) (w k : ℕ) → k < 32 → bit_at ws (32 * w + k) ≡ eqb (get_or ws w 0 / 2 ^ k % 2) 1
unfolding bit_at bit
word_bits ws w k h =
    let p : (32 * w + k) / 32 ≡ w = omega arith in
    let q : (32 * w + k) % 32 ≡ k = omega arith in
    rw (p, q)

module _ (ws : List ℕ) where
  -- From place i on, in its word.
  pub low-ones-from : (i d : ℕ) → get_or ws (i / 32) 0 < 2 ^ 32
      → min (count_trailing_zeros 32 (2 ^ 32 - 1 - get_or ws (i / 32) 0 / 2 ^ (i % 32))) d ≡ min (held_from ws d i) (32 - i % 32)
  low-ones-from i d l =
      let at : 32 * (i / 32) + i % 32 ≡ i = omega arith in
      rw at at (low_ones ws _ _ (word_bits ws (i / 32)) 32 (32 - i % 32) (i % 32) d (omega arith) (omega arith) l)

  -- From word w on, in that word.
  pub low-ones-word : (w d : ℕ) → get_or ws w 0 < 2 ^ 32 → 32 ≤ d
      → count_trailing_zeros 32 (2 ^ 32 - 1 - get_or ws w 0) ≡ min (held_from ws d (32 * w)) 32
  low-ones-word w d l h =
      let r = low_ones ws _ _ (word_bits ws w) 32 32 0 d (omega arith) (omega arith) l in
      let s = rw (add-zero (32 * w), div-one (get_or ws w 0)) at r in
      omega (arith, trailing_le 32 (2 ^ 32 - 1 - get_or ws w 0))

  -- Below place c, in the word just below it.
  pub high-ones-below : (c : ℕ) → 0 < c
      → count_leading_zeros 32 (2 ^ 32 - 1 - get_or ws ((c - 1) / 32) 0 * 2 ^ (31 - (c - 1) % 32) % 2 ^ 32)
      ≡ min (held_below ws c) ((c - 1) % 32 + 1)
  high-ones-below c h =
      let at : 32 * ((c - 1) / 32) + ((c - 1) % 32 + 1) ≡ c = omega arith in
      rw at at (high_ones ws _ _ (word_bits ws ((c - 1) / 32)) ((c - 1) % 32 + 1) (31 - (c - 1) % 32) (omega arith))

  -- Below word w, in the word just below it.
  pub high-ones-word : (w : ℕ) → 0 < w → get_or ws (w - 1) 0 < 2 ^ 32
      → count_leading_zeros 32 (2 ^ 32 - 1 - get_or ws (w - 1) 0) ≡ min (held_below ws (32 * w)) 32
  high-ones-word w h l =
      let at : 32 * (w - 1) + 32 ≡ 32 * w = omega arith in
      rw (at, mul-one (get_or ws (w - 1) 0), mod-eq_of_lt l) at (high_ones ws _ _ (word_bits ws (w - 1)) 32 0 refl)

  -- The run from place x on that came to word w goes on by that word, or ends in it.
  module _ (x w u : ℕ) (h : x ≤ 32 * w) (l : 32 * w - x ≤ held_from ws (u - x) x) where
    pub word_more : 32 ≤ held_from ws (u - 32 * w) (32 * w) → 32 * (w + 1) - x ≤ held_from ws (u - x) x
    word_more m = omega (arith, from_at ws x (32 * w) u h l)

    pub word-last : {n : ℕ} → n ≡ 32 * w + min (held_from ws (u - 32 * w) (32 * w)) (32 - 32 * w % 32)
        → held_from ws (u - 32 * w) (32 * w) < 32 → n - x ≡ held_from ws (u - x) x
    word-last e m = omega (arith, from_at ws x (32 * w) u h l)

  -- The run below place c that came to word w goes on by the word below.
  pub word-more-below : (c w : ℕ) → 0 < w → 32 * w ≤ c → c - 32 * w ≤ held_below ws c → 32 ≤ held_below ws (32 * w)
      → c - 32 * (w - 1) ≤ held_below ws c
  word-more-below c w p h l m = omega (arith, below_at ws c (32 * w) h l)
