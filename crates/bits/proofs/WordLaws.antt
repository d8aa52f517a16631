-- The bits of one word: of or, and, complement and a power of two, then of a word with a bit set and with it clear.
-- Assumes nothing.
use Prim.Native.Nat.{ℕ, zero, suc, ◌-◌, ◌*◌, ◌/◌, ◌%◌, ◌^◌, ◌<◌}
use native.Mathlib.Nat.{one-mul, mod-eq_of_lt, mod-lt, zero-lt-suc, div-one}
use native.Mathlib.Numerals.{one-add}
use native.Mathlib.Omega.{arith}
use mathlib.Core.Path.{◌≡◌, refl, sym, ap, ◌∙◌}
use mathlib.Core.Logic.{◌≢◌}
use lib.Pow.{pow-lt, shr-shr}
use lib.Bits.{bit_and, bit_or, and_shr, or_shr, and_mod, or_mod, or_zero_r, and_zero_r}
use Rattle.bits.specs.Bits.{bit, with_bit, without_bit}

pub bit_lt : (w k : ℕ) → bit w k < 2
unfolding bit
bit_lt w k = mod-lt (w / 2 ^ k) (zero-lt-suc 1)

-- One shifted by less than the width, as the code has it.
pub shl_one : (n k : ℕ) → k < n → 1 * 2 ^ k % 2 ^ n ≡ 2 ^ k
shl_one n k h = rw one-mul (mod-eq_of_lt (pow-lt h))

-- ---- bit by bit

pub bit-low : (w : ℕ) → bit w 0 ≡ w % 2
unfolding bit
bit-low w = rw div-one

pub bit-suc : (w k : ℕ) → bit w (suc k) ≡ bit (w / 2) k
unfolding bit
bit-suc w k = ap (λ (n : ℕ). n % 2) (ap (λ (m : ℕ). w / 2 ^ m) (sym (one-add k)) ∙ sym (shr-shr w 1 k))

pub bit_or_lem : (a b k : ℕ) → bit (bit_or a b) k ≡ bit_or (bit a k) (bit b k)
unfolding bit
bit_or_lem a b k = rw or_shr (or_mod (a / 2 ^ k) (b / 2 ^ k) 1)

pub bit_and_lem : (a b k : ℕ) → bit (bit_and a b) k ≡ bit_and (bit a k) (bit b k)
unfolding bit
bit_and_lem a b k = rw and_shr (and_mod (a / 2 ^ k) (b / 2 ^ k) 1)

pub bit_of_zero : (k : ℕ) → bit 0 k ≡ 0
bit_of_zero zero = bit-low 0
bit_of_zero (suc k) = bit-suc 0 k ∙ bit_of_zero k

half : (k : ℕ) → 2 ^ suc k / 2 ≡ 2 ^ k
half k = omega arith

-- Of 2 ^ k, bit k alone is set.
bit-pow-same : (k : ℕ) → bit (2 ^ k) k ≡ 1
bit-pow-same zero = bit-low 1
bit-pow-same (suc k) = bit-suc (2 ^ suc k) k ∙ rw half (bit-pow-same k)

bit-pow-other : (k j : ℕ) → j ≢ k → bit (2 ^ k) j ≡ 0
bit-pow-other zero zero n = absurd (n refl)
bit-pow-other zero (suc j) n = bit-suc 1 j ∙ bit_of_zero j
bit-pow-other (suc k) zero n = bit-low (2 ^ suc k) ∙ omega arith
bit-pow-other (suc k) (suc j) n = bit-suc (2 ^ suc k) j ∙ rw half (bit-pow-other k j (λ e. n (ap suc e)))

-- The complement in m bits has the other bit at each place.
pub bit_not : (m a j : ℕ) → a < 2 ^ m → j < m → bit (2 ^ m - 1 - a) j ≡ 1 - bit a j
bit_not zero a j h l = absurd (omega arith)
bit_not (suc m) a zero h l = rw (bit-low (2 ^ suc m - 1 - a), bit-low a) (omega arith)
bit_not (suc m) a (suc j) h l =
    let e : (2 ^ suc m - 1 - a) / 2 ≡ 2 ^ m - 1 - a / 2 = omega arith in
    rw (bit-suc (2 ^ suc m - 1 - a) j, bit-suc a j, e) (bit_not m (a / 2) j (omega arith) (omega arith))

-- ---- a word with a bit changed

pub or_one : (x : ℕ) → x < 2 → bit_or x 1 ≡ 1
or_one zero h = refl
or_one (suc zero) h = refl
or_one (suc (suc x)) h = absurd (omega arith)

and_one : (x : ℕ) → x < 2 → bit_and x 1 ≡ x
and_one zero h = refl
and_one (suc zero) h = refl
and_one (suc (suc x)) h = absurd (omega arith)

module _ (w k : ℕ) where
  pub with_bit-same : bit (with_bit w k) k ≡ 1
  unfolding with_bit
  with_bit-same = rw (bit_or_lem, bit-pow-same) (or_one (bit w k) (bit_lt w k))

  pub with_bit-other : (j : ℕ) → j ≢ k → bit (with_bit w k) j ≡ bit w j
  unfolding with_bit
  with_bit-other j n = rw (bit_or_lem, bit-pow-other k j n) (or_zero_r (bit w j))

  pub without_bit-same : k < 32 → bit (without_bit w k) k ≡ 0
  unfolding without_bit
  without_bit-same h = rw (bit_and_lem, bit_not 32 (2 ^ k) k (pow-lt h) h, bit-pow-same) (and_zero_r (bit w k))

  pub without_bit-other : k < 32 → (j : ℕ) → j < 32 → j ≢ k → bit (without_bit w k) j ≡ bit w j
  unfolding without_bit
  without_bit-other h j l n =
      rw (bit_and_lem, bit_not 32 (2 ^ k) j (pow-lt h) l, bit-pow-other k j n) (and_one (bit w j) (bit_lt w j))
