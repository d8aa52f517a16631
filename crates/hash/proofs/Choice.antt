-- Ch and Maj by fewer operations, as the code computes them: bit by bit, over any width. Assumes nothing.
use Rattle.std.proofs.Common.{◌≡◌, ℕ, zero, suc, ◌-◌, ◌*◌, ◌/◌, ◌%◌, ◌^◌, ◌<◌, refl, pow-suc, arith}
use lib.Bits.{bit_and, bit_xor, and_shr, xor_shr, and_mod, xor_mod}

-- What holds of 0 and of 1 holds of a bit.
bit : (P : ℕ → Type 0) → P 0 → P 1 → (x : ℕ) → x < 2 → P x
bit P p q zero h = p
bit P p q (suc zero) h = q
bit P p q (suc (suc x)) h = absurd (omega arith)

three_bits : (P : ℕ → ℕ → ℕ → Type 0) → P 0 0 0 → P 0 0 1 → P 0 1 0 → P 0 1 1 → P 1 0 0 → P 1 0 1 → P 1 1 0 → P 1 1 1
    → (x y z : ℕ) → x < 2 → y < 2 → z < 2 → P x y z
three_bits P a b c d e f g h x y z hx hy hz =
    bit (λ x. P x y z)
    (bit (λ y. P 0 y z) (bit (λ z. P 0 0 z) a b z hz) (bit (λ z. P 0 1 z) c d z hz) y hy)
    (bit (λ y. P 1 y z) (bit (λ z. P 1 0 z) e f z hz) (bit (λ z. P 1 1 z) g h z hz) y hy)
    x hx

halves : (p q : ℕ) → p / 2 ^ 1 ≡ q / 2 ^ 1 → p % 2 ^ 1 ≡ q % 2 ^ 1 → p ≡ q
halves p q a b = omega arith

abbrev majority : (x y z : ℕ) → ℕ
majority x y z = bit_xor (bit_and (bit_xor x y) (bit_xor y z)) y

abbrev Maj : (x y z : ℕ) → ℕ
Maj x y z = bit_xor (bit_xor (bit_and x y) (bit_and x z)) (bit_and y z)

maj-bit : (x y z : ℕ) → x < 2 → y < 2 → z < 2 → majority x y z ≡ Maj x y z
maj-bit = three_bits (λ x y z. majority x y z ≡ Maj x y z) refl refl refl refl refl refl refl refl

pub maj_is : (k x y z : ℕ) → x < 2 ^ k → y < 2 ^ k → z < 2 ^ k → majority x y z ≡ Maj x y z
maj_is zero x y z a b c = maj-bit x y z (omega arith) (omega arith) (omega arith)
maj_is (suc k) x y z a b c =
    let d : 2 ^ suc k ≡ 2 ^ k * 2 = pow-suc 2 k in
    halves (majority x y z) (Maj x y z)
    (simp (xor_shr, and_shr) (maj_is k (x / 2 ^ 1) (y / 2 ^ 1) (z / 2 ^ 1) (omega arith) (omega arith) (omega arith)))
    (simp (xor_mod, and_mod) (maj-bit (x % 2 ^ 1) (y % 2 ^ 1) (z % 2 ^ 1) (omega arith) (omega arith) (omega arith)))

abbrev choice : (x y z : ℕ) → ℕ
choice x y z = bit_xor (bit_and (bit_xor y z) x) z

-- n stands for the complement of x, whatever the width
abbrev Ch : (n x y z : ℕ) → ℕ
Ch n x y z = bit_xor (bit_and x y) (bit_and n z)

ch-bit : (x y z : ℕ) → x < 2 → y < 2 → z < 2 → choice x y z ≡ Ch (1 - x) x y z
ch-bit = three_bits (λ x y z. choice x y z ≡ Ch (1 - x) x y z) refl refl refl refl refl refl refl refl

pub ch_is : (k x y z : ℕ) → x < 2 ^ k → y < 2 ^ k → z < 2 ^ k → choice x y z ≡ Ch ((2 ^ k - 1) - x) x y z
ch_is zero zero zero zero a b c = refl
ch_is zero (suc x) y z a b c = absurd (omega arith)
ch_is zero zero (suc y) z a b c = absurd (omega arith)
ch_is zero zero zero (suc z) a b c = absurd (omega arith)
ch_is (suc k) x y z a b c =
    let d : 2 ^ suc k ≡ 2 ^ k * 2 = pow-suc 2 k in
    let h : ((2 ^ suc k - 1) - x) / 2 ^ 1 ≡ (2 ^ k - 1) - x / 2 ^ 1 = omega arith in
    let e : ((2 ^ suc k - 1) - x) % 2 ^ 1 ≡ 1 - x % 2 ^ 1 = omega arith in
    halves (choice x y z) (Ch ((2 ^ suc k - 1) - x) x y z)
    (simp (xor_shr, and_shr) (rw h (ch_is k (x / 2 ^ 1) (y / 2 ^ 1) (z / 2 ^ 1) (omega arith) (omega arith) (omega arith))))
    (simp (xor_mod, and_mod) (rw e (ch-bit (x % 2 ^ 1) (y % 2 ^ 1) (z % 2 ^ 1) (omega arith) (omega arith) (omega arith))))
