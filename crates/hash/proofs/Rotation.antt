-- Rotations of a word of j + k bits to the right by j: they go through XOR, and two of them are one by the sum.
-- So the code may share a rotation between the terms of a sigma. Assumes nothing.
use Rattle.std.proofs.Common.{◌≡◌, ℕ, ◌+◌, ◌*◌, ◌/◌, ◌%◌, ◌^◌, ◌<◌, sym, ap, ◌∙◌, ap₂, lt_of_le_of_lt, add-zero, add_assoc, mod-lt, mul_assoc, add-mul, add_comm, pow_pos, pow-add, shr-shr, shr_lt}
use native.Mathlib.Nat.{add_left_comm, mul-mod_left, mul-add-div_right, mul-add-mod_self_right}
use lib.Bits.{bit_or, bit_xor, or_lt, or_shifted_r, xor_block, xor_shr, xor_mod, xor_lt}
use lib.Pow.{shl-shr, shr_le, mod-pow-add}

-- The word x of j + k bits, rotated right by j: at numerals with the sum 32, ROTR j x.
abbrev pub rot : (j k x : ℕ) → ℕ
rot j k x = bit_or (x / 2 ^ j) (x * 2 ^ k % 2 ^ (j + k))

shl_mod : (x j k : ℕ) → x * 2 ^ k % 2 ^ (j + k) ≡ x % 2 ^ j * 2 ^ k
shl_mod x j k = mod-pow-add (x * 2 ^ k) j k ∙ rw (shl-shr x k, mul-mod_left x (2 ^ k), add-zero)

rot_is : (j k x : ℕ) → x < 2 ^ (j + k) → rot j k x ≡ x % 2 ^ j * 2 ^ k + x / 2 ^ j
rot_is j k x h = rw (shl_mod x j k) (or_shifted_r (x % 2 ^ j) k (x / 2 ^ j) (shr_lt k j (rw (add_comm k j) h)))

pub rot_xor : (j k x y : ℕ) → x < 2 ^ (j + k) → y < 2 ^ (j + k) → rot j k (bit_xor x y) ≡ bit_xor (rot j k x) (rot j k y)
rot_xor j k x y hx hy =
    rot_is j k (bit_xor x y) (xor_lt (j + k) x y hx hy)
    ∙ rw (xor_mod x y j, xor_shr x y j) (sym (xor_block k (x % 2 ^ j) (y % 2 ^ j) (x / 2 ^ j) (y / 2 ^ j) (shr_lt k j (rw (add_comm k j) hx)) (shr_lt k j (rw (add_comm k j) hy))))
    ∙ sym (ap₂ (λ (p q : ℕ). bit_xor p q) (rot_is j k x hx) (rot_is j k y hy))

rot_lt : (j k x : ℕ) → x < 2 ^ (j + k) → rot j k x < 2 ^ (j + k)
rot_lt j k x h = or_lt (j + k) (x / 2 ^ j) (x * 2 ^ k % 2 ^ (j + k)) (lt_of_le_of_lt (shr_le x j) h) (mod-lt (x * 2 ^ k) (pow_pos (j + k)))

-- the two sides, of a word whose lowest n bits are l, the next m bits a, and the rest b
both : (n c a l b : ℕ) → a * 2 ^ (n + c) + (l * 2 ^ c + b) ≡ (a * 2 ^ n + l) * 2 ^ c + b
both n c a l b = rw (pow-add 2 n c, add-mul (a * 2 ^ n) l (2 ^ c), mul_assoc a (2 ^ n) (2 ^ c)) (sym (add_assoc (a * (2 ^ n * 2 ^ c)) (l * 2 ^ c) b))

-- Two rotations of a word of n + m + c bits, by n and by m.
pub rot-rot : (n m c x : ℕ) → x < 2 ^ (n + (m + c)) → rot m (n + c) (rot n (m + c) x) ≡ rot (n + m) c x
rot-rot n m c x h =
    let y : ℕ = rot n (m + c) x in
    let a : ℕ = x / 2 ^ n in
    let l : ℕ = x % 2 ^ n in
    let e : y ≡ l * 2 ^ c * 2 ^ m + a =
    rot_is n (m + c) x h ∙ rw (add_comm m c, pow-add 2 c m, mul_assoc l (2 ^ c) (2 ^ m)) in
    let hy : y < 2 ^ (m + (n + c)) = rw (← (add_left_comm n m c)) (rot_lt n (m + c) x h) in
    let hx : x < 2 ^ (n + m + c) = rw (add_assoc n m c) h in
    let left : rot m (n + c) y ≡ a % 2 ^ m * 2 ^ (n + c) + (l * 2 ^ c + a / 2 ^ m) =
    rot_is m (n + c) y hy ∙ rw (e, mul-add-mod_self_right (l * 2 ^ c) (2 ^ m) a, mul-add-div_right (pow_pos m) (l * 2 ^ c) a) in
    let low : x % 2 ^ (n + m) ≡ a % 2 ^ m * 2 ^ n + l = rw (add_comm n m) (mod-pow-add x m n) in
    let right : rot (n + m) c x ≡ (a % 2 ^ m * 2 ^ n + l) * 2 ^ c + a / 2 ^ m =
    rot_is (n + m) c x hx ∙ rw (low, ← (shr-shr x n m)) in
    left ∙ both n c (a % 2 ^ m) l (a / 2 ^ m) ∙ sym right

-- What two calls of a rotation give: x rotated by n, and x with that rotated by m.
pub shared_rotation : (n m c x : ℕ) {r s : ℕ} → x < 2 ^ (n + (m + c))
    → r ≡ rot n (m + c) x → s ≡ rot m (n + c) (bit_xor x r)
    → s ≡ bit_xor (rot m (n + c) x) (rot (n + m) c x)
shared_rotation n m c x {r} {s} h e f =
    let up : 2 ^ (n + (m + c)) ≡ 2 ^ (m + (n + c)) = rw (add_left_comm n m c) in
    f ∙ rw e (rot_xor m (n + c) x (rot n (m + c) x) (rw (← up) h) (rw (← up) (rot_lt n (m + c) x h)) ∙ ap (bit_xor (rot m (n + c) x)) (rot-rot n m c x h))
