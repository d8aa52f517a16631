-- Bin numbers: the height by trailing zeros, and a node by its height and its first chunk. Assumes nothing.
use Rattle.std.proofs.Common.{◌≡◌, ℕ, zero, suc, ◌+◌, ◌-◌, ◌*◌, ◌/◌, ◌%◌, ◌^◌, ◌<◌, ◌≤◌, false, eqb, ◌⊎◌, sym, refl, ap, ◌∙◌, inl, inr, not-suc-le-zero, zero-lt-suc, pow-suc, add-one, arith, pow_pos, pow_mono, ne_eqb}
use native.Mathlib.Decide.{le_ind}
use lib.Count.{count_trailing_zeros, under}
use lib.Arith.{lt-one}
use lib.Pow.{field, mod-mod-pow}
use Rattle.base.specs.Pick.{pick}
use Rattle.tree.specs.Bin.{low_ones, height, first, last, bin}
use Rattle.tree.proofs.NodeLaws.{split}

odd : (r : ℕ) → eqb (suc r) 0 ≡ false
odd r = ne_eqb (suc r) 0 (λ e. omega arith)

-- the ones at the low end of b are the zeros at the low end of b + 1
pub ones_are_zeros : (d b : ℕ) → low_ones d b ≡ count_trailing_zeros d (b + 1)
unfolding low_ones count_trailing_zeros
ones_are_zeros zero b = refl
ones_are_zeros (suc d) b = go (b % 2) ((b + 1) % 2) refl refl (ones_are_zeros d (b / 2))
  where
    go : (r s : ℕ) → b % 2 ≡ r → (b + 1) % 2 ≡ s → low_ones d (b / 2) ≡ count_trailing_zeros d (b / 2 + 1)
        → pick (eqb r 0) 0 (suc (low_ones d (b / 2))) ≡ under s (count_trailing_zeros d ((b + 1) / 2))
    go zero zero e f ih = absurd (omega arith)
    go zero (suc s) e f ih = refl
    go (suc r) zero e f ih = let h : (b + 1) / 2 ≡ b / 2 + 1 = omega arith in rw (odd r, h) (ap suc ih)
    go (suc r) (suc s) e f ih = absurd (omega arith)

-- digits above the number's own add no ones
more : (d b : ℕ) → b < 2 ^ d → low_ones (suc d) b ≡ low_ones d b
unfolding low_ones
more zero b h = rw (lt-one h)
more (suc d) b h = ap (λ (x : ℕ). pick (eqb (b % 2) 0) 0 (suc x)) (more d (b / 2) (omega arith))

enough : (d b : ℕ) → b < 2 ^ d → (e : ℕ) → d ≤ e → low_ones e b ≡ low_ones d b
enough d b h e l =
    le_ind (λ (m : ℕ). low_ones m b ≡ low_ones d b) refl
    (λ m k ih. more m b (omega (arith, pow_mono k)) ∙ ih) e l

pub below-pow : (n : ℕ) → n < 2 ^ n
below-pow zero = zero-lt-suc zero
below-pow (suc n) = omega (arith, below-pow n)

-- any number of digits that holds b will do for its height
pub height_by : (d b : ℕ) → b < 2 ^ d → low_ones d b ≡ height b
unfolding height
height_by d b h = go (split d b)
  where
    go : (d ≤ b) ⊎ (b < d) → low_ones d b ≡ low_ones b b
    go (inl l) = sym (enough d b h b l)
    go (inr l) = enough b b (below-pow b) d (omega arith)

pub height_zeros : (d b : ℕ) → b < 2 ^ d → count_trailing_zeros d (b + 1) ≡ height b
height_zeros d b h = sym (ones_are_zeros d b) ∙ height_by d b h

-- digits past the d that are looked at add no zeros, so a sum that wraps at 2 ^ d will do
low_zeros : (d x : ℕ) → count_trailing_zeros d (x % 2 ^ d) ≡ count_trailing_zeros d x
unfolding count_trailing_zeros
low_zeros zero x = refl
low_zeros (suc d) x =
    let e : x % 2 ^ suc d % 2 ≡ x % 2 = rw add-one at (mod-mod-pow x d 1) in
    let f : x % 2 ^ suc d / 2 ≡ x / 2 % 2 ^ d = rw add-one at (field x d 1) in
    rw (e, f) (ap (under (x % 2)) (low_zeros d (x / 2)))

pub height_wrapped : (d b : ℕ) → b < 2 ^ d → count_trailing_zeros d ((b + 1) % 2 ^ d) ≡ height b
height_wrapped d b h = low_zeros d (b + 1) ∙ height_zeros d b h

-- the height of the node of height h that is the k-th from the left
low-bin : (d h k : ℕ) → h < d → low_ones d (bin h (k * 2 ^ h)) ≡ h
unfolding low_ones
low-bin zero h k l = absurd (not-suc-le-zero l)
low-bin (suc d) zero k l = let e : (2 * (k * 1) + 1 - 1) % 2 ≡ 0 = omega arith in rw e
low-bin (suc d) (suc h) k l =
    let p : k * 2 ^ suc h ≡ 2 * (k * 2 ^ h) = rw pow-suc (omega arith) in
    let o : (bin (suc h) (k * 2 ^ suc h)) % 2 ≡ 1 = omega (arith, p, pow_pos h) in
    let q : (bin (suc h) (k * 2 ^ suc h)) / 2 ≡ bin h (k * 2 ^ h) = omega (arith, p, pow_pos h) in
    rw (o, q) (ap suc (low-bin d h k (omega arith)))

pub height-bin : (h k : ℕ) → height (bin h (k * 2 ^ h)) ≡ h
height-bin h k =
    let b = bin h (k * 2 ^ h) in
    sym (height_by (suc h + b) b (omega (arith, below-pow b, pow_mono {i = b} {j = suc h + b} (omega arith))))
    ∙ low-bin (suc h + b) h k (omega arith)

pub first-bin : (h k : ℕ) → first (bin h (k * 2 ^ h)) ≡ k * 2 ^ h
unfolding first
first-bin h k = rw height-bin (omega (arith, pow_pos h))

-- ---- every number is a node's

pub pow_low : (d b : ℕ) → 2 ^ low_ones d b ≤ b + 1
unfolding low_ones
pow_low zero b = omega arith
pow_low (suc d) b = go (b % 2) refl (pow_low d (b / 2))
  where
    go : (r : ℕ) → b % 2 ≡ r → 2 ^ low_ones d (b / 2) ≤ b / 2 + 1 → 2 ^ pick (eqb r 0) 0 (suc (low_ones d (b / 2))) ≤ b + 1
    go zero e ih = omega arith
    go (suc r) e ih = let h : 2 ^ suc (low_ones d (b / 2)) ≤ b + 1 = omega arith in rw (odd r) h

pub pow-height : (b : ℕ) → 2 ^ height b ≤ b + 1
unfolding height
pow-height b = pow_low b b

-- a power below another has the lower exponent
pub exponent_lt : (i j : ℕ) → 2 ^ i < 2 ^ j → i < j
exponent_lt i j l = go (split j i)
  where
    go : (j ≤ i) ⊎ (i < j) → i < j
    go (inl h) = absurd (omega (arith, pow_mono h))
    go (inr h) = h

-- what lies above the ones at the low end: a zero, and below it as many ones as the height
above-ones : (d b : ℕ) → b < 2 ^ d → (j : ℕ) × (b ≡ bin (low_ones d b) (j * 2 ^ low_ones d b))
unfolding low_ones
above-ones zero b l = (0, omega arith)
above-ones (suc d) b l = go (b % 2) refl (above-ones d (b / 2) (omega arith))
  where
    go : (r : ℕ) → b % 2 ≡ r → (j : ℕ) × (b / 2 ≡ bin (low_ones d (b / 2)) (j * 2 ^ low_ones d (b / 2)))
        → (j : ℕ) × (b ≡ bin (pick (eqb r 0) 0 (suc (low_ones d (b / 2)))) (j * 2 ^ pick (eqb r 0) 0 (suc (low_ones d (b / 2)))))
    go zero e ih = (b / 2, omega arith)
    go (suc r) e ih =
        let k = low_ones d (b / 2) in
        let p : ih.0 * 2 ^ suc k ≡ 2 * (ih.0 * 2 ^ k) = rw pow-suc (omega arith) in
        let f : b ≡ bin (suc k) (ih.0 * 2 ^ suc k) = omega (arith, ih.1, p, pow_pos k) in
        rw (odd r) (ih.0, f)

pub node_of : (b : ℕ) → (j : ℕ) × (b ≡ bin (height b) (j * 2 ^ height b))
unfolding height
node_of b = above-ones b b (below-pow b)

-- two nodes of one number are the same
pub bin_inj : (h j h' j' : ℕ) → bin h (j * 2 ^ h) ≡ bin h' (j' * 2 ^ h') → (h ≡ h') × (j * 2 ^ h ≡ j' * 2 ^ h')
bin_inj h j h' j' e = (
  sym (height-bin h j) ∙ ap height e ∙ height-bin h' j',
  sym (first-bin h j) ∙ ap first e ∙ first-bin h' j',
)

-- a node's number is the sum of its first and its last chunk
pub first_plus_last : (b : ℕ) → first b + last b ≡ b
unfolding last first
first_plus_last b =
    let n = node_of b in
    let e : first b ≡ n.0 * 2 ^ height b = ap first n.1 ∙ first-bin (height b) n.0 in
    omega (arith, e, n.1, pow_pos (height b))

-- its first chunk is not behind its last
pub first-to-last : (b : ℕ) → first b ≤ last b
unfolding last
first-to-last b = omega (arith, pow_pos (height b))

-- every number is the node of its height and first chunk, and that chunk is a multiple
pub bin_of : (b : ℕ) → bin (height b) (first b) ≡ b
bin_of b =
    let n = node_of b in
    ap (bin (height b)) (ap first n.1 ∙ first-bin (height b) n.0) ∙ sym n.1
