-- Some bits of a word set or cleared at once, one bit more at a time. Assumes nothing.
use Prim.Native.Nat.{ℕ, zero, suc, ◌+◌, ◌-◌, ◌*◌, ◌/◌, ◌%◌, ◌^◌, ◌≤◌, ◌<◌}
use native.Mathlib.Nat.{one-mul, pow-suc, div-eq_of_lt, lt_of_lt_of_le, lt_of_le_of_lt}
use native.Mathlib.Omega.{arith}
use native.Mathlib.Decide.{dec_lt, ℕ_discrete}
use mathlib.Core.Path.{◌≡◌, sym, ◌∙◌}
use lib.Pow.{pow_pos, pow_mono, ones_sub-lt}
use lib.Bits.{bit_and, bit_or, and_le_r, and_zero_r, or_shifted_r}
use Rattle.bits.specs.Bits.{bit, with_bit, without_bit}
use Rattle.bits.specs.Steps.{mask, with_bits, without_bits}
use Rattle.bits.proofs.WordLaws.{shl_one, bit_lt, bit-low, bit-suc, bit_or_lem, bit_and_lem, bit_not, or_one}
use Rattle.bits.proofs.WordLaws.{with_bit-same, with_bit-other, without_bit-same, without_bit-other}

-- ---- numbers with the same bits are the same

same-within : (n a b : ℕ) → a ≤ n → b ≤ n → ((k : ℕ) → bit a k ≡ bit b k) → a ≡ b
same-within zero a b h l e = omega arith
same-within (suc n) a b h l e =
    let low : a % 2 ≡ b % 2 = sym (bit-low a) ∙ e 0 ∙ bit-low b in
    let high : (k : ℕ) → bit (a / 2) k ≡ bit (b / 2) k = λ k. sym (bit-suc a k) ∙ e (suc k) ∙ bit-suc b k in
    let rest : a / 2 ≡ b / 2 = same-within n (a / 2) (b / 2) (omega arith) (omega arith) high in
    omega arith

bit_ext : (a b : ℕ) → ((k : ℕ) → bit a k ≡ bit b k) → a ≡ b
bit_ext a b = same-within (a + b) a b (omega arith) (omega arith)

-- ---- the mask

-- As the code has it.
module _ (a b : ℕ) (h : a ≤ b) (l : b ≤ 32) where
  pub mask-le : 1 * 2 ^ a % 2 ^ 64 ≤ 1 * 2 ^ b % 2 ^ 64
  mask-le = rw (shl_one 64 a (omega arith), shl_one 64 b (omega arith)) (pow_mono h)

  pub mask_is : (1 * 2 ^ b % 2 ^ 64) - (1 * 2 ^ a % 2 ^ 64) ≡ mask a b
  unfolding mask
  mask_is = rw (shl_one 64 b (omega arith), shl_one 64 a (omega arith))

pub mask_lt : (a b : ℕ) → b ≤ 32 → mask a b < 2 ^ 32
unfolding mask
mask_lt a b h = let l : 2 ^ b ≤ 2 ^ 32 = pow_mono h in omega (arith, pow_pos a)

-- A mask of one bit, and of one bit more.
mask_one : (a : ℕ) → mask a (suc a) ≡ 2 ^ a
unfolding mask
mask_one a = omega (arith, pow-suc 2 a)

mask-more : (a b : ℕ) → a ≤ b → mask a (suc b) ≡ with_bit (mask a b) b
unfolding mask with_bit
mask-more a b h =
    let l : 2 ^ a ≤ 2 ^ b = pow_mono h in
    let m : 2 ^ b - 2 ^ a < 2 ^ b = omega (arith, pow_pos a) in
    let s : 2 ^ suc b - 2 ^ a ≡ 1 * 2 ^ b + (2 ^ b - 2 ^ a) = omega (arith, pow-suc 2 b) in
    s ∙ sym (or_shifted_r 1 b (2 ^ b - 2 ^ a) m) ∙ rw one-mul

-- ---- a word with the bits of a mask set, and with them clear

pub with_bits-one : (w a : ℕ) → with_bits w a (suc a) ≡ with_bit w a
unfolding with_bits with_bit
with_bits-one w a = rw mask_one

pub without_bits-one : (w a : ℕ) → without_bits w a (suc a) ≡ without_bit w a
unfolding without_bits without_bit
without_bits-one w a = rw mask_one

pub with_bits-more : (w a b : ℕ) → a ≤ b → with_bit (with_bits w a b) b ≡ with_bits w a (suc b)
unfolding with_bits
with_bits-more w a b h = rw (mask-more a b h) (bit_ext _ _ (λ j. go j (ℕ_discrete j b)))
  where
    m : ℕ
    m = mask a b

    go : (j : ℕ) → Dec (j ≡ b) → bit (with_bit (bit_or w m) b) j ≡ bit (bit_or w (with_bit m b)) j
    go j (yes e) = rw (e, with_bit-same, bit_or_lem, with_bit-same) (sym (or_one (bit w b) (bit_lt w b)))
    go j (no d) = rw (with_bit-other (bit_or w m) b j d, bit_or_lem w m j, bit_or_lem w (with_bit m b) j, with_bit-other m b j d)

-- From bit 32 on a word with some bits clear has none.
bit_high : (w m j : ℕ) → 32 ≤ j → bit (bit_and w (2 ^ 32 - 1 - m)) j ≡ 0
unfolding bit
bit_high w m j h =
    let l : bit_and w (2 ^ 32 - 1 - m) < 2 ^ 32 = lt_of_le_of_lt (and_le_r w _) (ones_sub-lt 32 m) in
    rw (div-eq_of_lt (lt_of_lt_of_le l (pow_mono h)))

without_bit-high : (w k j : ℕ) → 32 ≤ j → bit (without_bit w k) j ≡ 0
unfolding without_bit
without_bit-high w k = bit_high w (2 ^ k)

pub without_bits-more : (w a b : ℕ) → a ≤ b → b < 32 → without_bit (without_bits w a b) b ≡ without_bits w a (suc b)
unfolding without_bits
without_bits-more w a b h l = rw (mask-more a b h) (bit_ext _ _ (λ j. go j (dec_lt j 32) (ℕ_discrete j b)))
  where
    m : ℕ
    m = mask a b

    n : with_bit m b < 2 ^ 32
    n = rw (mask-more a b h) at (mask_lt a (suc b) (omega arith))

    go : (j : ℕ) → Dec (j < 32) → Dec (j ≡ b)
        → bit (without_bit (bit_and w (2 ^ 32 - 1 - m)) b) j ≡ bit (bit_and w (2 ^ 32 - 1 - with_bit m b)) j
    go j (no k) _ = without_bit-high _ b j (omega arith) ∙ sym (bit_high w (with_bit m b) j (omega arith))
    go j (yes k) (yes e) =
        rw (e, without_bit-same _ b l, bit_and_lem, bit_not 32 (with_bit m b) b n l, with_bit-same)
        (sym (and_zero_r (bit w b)))
    go j (yes k) (no d) =
        let p : m < 2 ^ 32 = mask_lt a b (omega arith) in
        without_bit-other _ b l j k d
        ∙ rw (bit_and_lem w (2 ^ 32 - 1 - m) j, bit_and_lem w (2 ^ 32 - 1 - with_bit m b) j)
        (rw (bit_not 32 m j p k, bit_not 32 (with_bit m b) j n k, with_bit-other m b j d))
