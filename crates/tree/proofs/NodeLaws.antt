-- Nodes by height and first chunk: the one above a chunk, its children, alignment. Assumes nothing.
use Rattle.std.proofs.Common.{◌≡◌, ℕ, zero, suc, ◌+◌, ◌-◌, ◌*◌, ◌/◌, ◌%◌, ◌^◌, ◌<◌, ◌≤◌, Bool, true, false, ltb, ◌⊎◌, sym, refl, ap, ◌∙◌, inl, inr, mul-le-mul_right, mod-lt, div-lt_iff_lt-mul, pow-suc, div-add-mod', zero-mul, add-one, arith, pow_pos, pow-add, shr-shr, le-ltb, lt-ltb}
use native.Mathlib.Nat.{div-eq_of_lt, div-eq_of_lt-le}
use native.Mathlib.Decide.{le_ind}
use Rattle.base.specs.Pick.{pick}
use Rattle.tree.specs.Bin.{bin}
use Rattle.tree.specs.Node.{sibling_from, above}

pub split : (m n : ℕ) → (m ≤ n) ⊎ (n < m)
split zero n = inl (omega arith)
split (suc m) zero = inr (omega arith)
split (suc m) (suc n) = go (split m n)
  where
    go : (m ≤ n) ⊎ (n < m) → (suc m ≤ suc n) ⊎ (suc n < suc m)
    go (inl h) = inl (omega arith)
    go (inr h) = inr (omega arith)

-- ---- down to the child above c, and the node above c at each height

pub above_in : (h c : ℕ) → (above h c ≤ c) × (c < above h c + 2 ^ h)
above_in h c = omega (arith, div-add-mod' c (2 ^ h), mod-lt c (pow_pos h))

pub above_twice : (h c : ℕ) → above (suc h) c ≡ 2 * (c / 2 ^ h / 2 * 2 ^ h)
above_twice h c =
    let half : c / 2 ^ suc h ≡ c / 2 ^ h / 2 = sym (shr-shr c h 1 ∙ ap (λ (x : ℕ). c / 2 ^ x) (add-one h)) in
    rw (half, pow-suc) (omega arith)

-- the node above c is a left child, or a right one
pub above-left : (h c : ℕ) → c / 2 ^ h % 2 ≡ 0 → above (suc h) c ≡ above h c
above-left h c e =
    let f : c / 2 ^ h ≡ 2 * (c / 2 ^ h / 2) = omega arith in
    omega (arith, above_twice h c, ap (λ (x : ℕ). x * 2 ^ h) f)

pub above-right : (h c : ℕ) → c / 2 ^ h % 2 ≡ 1 → above (suc h) c + 2 ^ h ≡ above h c
above-right h c e =
    let f : c / 2 ^ h ≡ 2 * (c / 2 ^ h / 2) + 1 = omega arith in
    omega (arith, above_twice h c, ap (λ (x : ℕ). x * 2 ^ h) f)

-- the sibling, by the bit of c that tells left from right
pub beside-left : (h c : ℕ) → c / 2 ^ h % 2 ≡ 0 → sibling_from h c ≡ above h c + 2 ^ h
beside-left h c e =
    let f = above-left h c e in
    rw (lt-ltb c (above (suc h) c + 2 ^ h) (omega (arith, above_in h c))) (ap (λ (x : ℕ). x + 2 ^ h) f)

pub beside-right : (h c : ℕ) → c / 2 ^ h % 2 ≡ 1 → sibling_from h c + 2 ^ h ≡ above h c
beside-right h c e =
    let f = above-right h c e in
    rw (le-ltb c (above (suc h) c + 2 ^ h) (omega (arith, above_in h c))) f

-- it is not far away
pub beside-near : (h c : ℕ) → sibling_from h c ≤ c + 2 ^ h
beside-near h c = go (ltb c (above (suc h) c + 2 ^ h))
  where
    go : (t : Bool) → pick t (above (suc h) c + 2 ^ h) (above (suc h) c) ≤ c + 2 ^ h
    go true = omega (arith, above_in (suc h) c)
    go false = omega (arith, above_in (suc h) c)

-- the sibling's first chunk by its index, as the code has it
pub beside-even : (h c k : ℕ) → k ≡ c / 2 ^ h → k % 2 ≡ 0 → (k + 1) * 2 ^ h ≡ sibling_from h c
beside-even h c k e f =
    omega (arith, ap (λ (x : ℕ). x * 2 ^ h) e, beside-left h c (rw e at f))

pub beside_odd : (h c k : ℕ) → k ≡ c / 2 ^ h → (k % 2 ≡ 0 → ⊥) → (k - 1) * 2 ^ h ≡ sibling_from h c
beside_odd h c zero e f = absurd (f refl)
beside_odd h c (suc k) e f =
    let g : suc k - 1 ≡ k = omega arith in
    let o : suc k % 2 ≡ 1 = omega arith in
    rw g (omega (arith, ap (λ (x : ℕ). x * 2 ^ h) e, beside-right h c (rw e at o)))

-- a node above c lies within the first 2 ^ t chunks if c does, and so do the numbers of its children
pub above-inside : (t k c : ℕ) → k ≤ t → c < 2 ^ t → above k c + 2 ^ k ≤ 2 ^ t
above-inside t k c l u =
    let e : 2 ^ (t - k) * 2 ^ k ≡ 2 ^ t = sym (pow-add 2 (t - k) k) ∙ ap (λ (x : ℕ). 2 ^ x) (omega arith) in
    let q : c / 2 ^ k < 2 ^ (t - k) = (div-lt_iff_lt-mul (pow_pos k)).1 (omega (arith, e)) in
    omega (arith, e, mul-le-mul_right (2 ^ k) q)

pub beside-inside : (t h c : ℕ) → h < t → c < 2 ^ t → bin h (sibling_from h c) < 2 ^ suc t
beside-inside t h c l u = go (ltb c (above (suc h) c + 2 ^ h)) (above-inside t (suc h) c l u)
  where
    go : (b : Bool) → above (suc h) c + 2 ^ suc h ≤ 2 ^ t → bin h (pick b (above (suc h) c + 2 ^ h) (above (suc h) c)) < 2 ^ suc t
    go true m = let r : bin h (above (suc h) c + 2 ^ h) < 2 ^ suc t = omega (arith, pow_pos h) in r
    go false m = let r : bin h (above (suc h) c) < 2 ^ suc t = omega (arith, pow_pos h) in r

pub above-top : (h c : ℕ) → c < 2 ^ h → above h c ≡ 0
above-top h c l = rw (div-eq_of_lt {n = c} {m = 2 ^ h} l) (zero-mul (2 ^ h))

pub above_unique : (h j c : ℕ) → j * 2 ^ h ≤ c → c < j * 2 ^ h + 2 ^ h → above h c ≡ j * 2 ^ h
above_unique h j c l u = ap (λ (x : ℕ). x * 2 ^ h) (div-eq_of_lt-le (2 ^ h) l (omega arith))

-- whole at one height, whole at each below
pub whole_down : (N c h : ℕ) → above (suc h) c + 2 ^ suc h ≤ N → above h c + 2 ^ h ≤ N
whole_down N c h w = go (c / 2 ^ h % 2) refl
  where
    go : (r : ℕ) → c / 2 ^ h % 2 ≡ r → above h c + 2 ^ h ≤ N
    go zero e = omega (arith, above-left h c e)
    go (suc r) e = omega (arith, above-right h c (omega arith))

pub whole_below : (N c k p : ℕ) → k ≤ p → above p c + 2 ^ p ≤ N → above k c + 2 ^ k ≤ N
whole_below N c k p l =
    le_ind (λ (m : ℕ). above m c + 2 ^ m ≤ N → above k c + 2 ^ k ≤ N) (λ w. w) (λ m _ ih w. ih (whole_down N c m w)) p l

-- of two nodes above c, the higher covers the lower
above-up : (k c : ℕ) → above (suc k) c ≤ above k c
above-up k c = go (c / 2 ^ k % 2) refl
  where
    go : (r : ℕ) → c / 2 ^ k % 2 ≡ r → above (suc k) c ≤ above k c
    go zero e = omega (arith, above-left k c e)
    go (suc r) e = omega (arith, above-right k c (omega arith))

pub above_nested : (h k c : ℕ) → h ≤ k → (above k c ≤ above h c) × (above h c + 2 ^ h ≤ above k c + 2 ^ k)
above_nested h k c l = (
  le_ind (λ (m : ℕ). above m c ≤ above h c) (omega arith) (λ m _ ih. omega (arith, ih, above-up m c)) k l,
  whole_below (above k c + 2 ^ k) c h k l (omega arith),
)

-- ---- aligned nodes

pub unique : (h a c : ℕ) → above h a ≡ a → a ≤ c → c < a + 2 ^ h → above h c ≡ a
unique h a c e l u = above_unique h (a / 2 ^ h) c (omega arith) (omega arith) ∙ e

pub above_aligned : (h c : ℕ) → above h (above h c) ≡ above h c
above_aligned h c = above_unique h (c / 2 ^ h) (above h c) (omega arith) (omega (arith, pow_pos h))

-- the parent of a left child, and of a right one
pub parent-right : (k a : ℕ) → above (suc k) a ≡ a → above (suc k) (a + 2 ^ k) ≡ a
parent-right k a e = unique (suc k) a (a + 2 ^ k) e (omega arith) (omega (arith, pow_pos k))

pub parent_above : (k c : ℕ) → above (suc k) (above k c) ≡ above (suc k) c
parent_above k c =
    unique (suc k) (above (suc k) c) (above k c) (above_aligned (suc k) c) (above-up k c)
    (omega (arith, above_in k c, above_in (suc k) c))

-- an aligned node's left child is aligned
pub aligned_left : (k a : ℕ) → above (suc k) a ≡ a → above k a ≡ a
aligned_left k a e = go (a / 2 ^ k % 2) refl
  where
    go : (r : ℕ) → a / 2 ^ k % 2 ≡ r → above k a ≡ a
    go zero f = sym (above-left k a f) ∙ e
    go (suc r) f = absurd (omega (arith, above-right k a (omega arith), above_in k a, pow_pos k))

pub aligned_right : (k a : ℕ) → above (suc k) a ≡ a → above k (a + 2 ^ k) ≡ a + 2 ^ k
aligned_right k a e =
    let f = aligned_left k a e in
    above_unique k (a / 2 ^ k + 1) (a + 2 ^ k) (omega arith) (omega (arith, pow_pos k)) ∙ omega arith

pub above_zero : (c : ℕ) → above zero c ≡ c
above_zero c = omega (arith, above_in zero c)

-- a node is the left child of its parent, or the right one
pub child_cases : (k a : ℕ) → above k a ≡ a → (a ≡ above (suc k) a) ⊎ (a ≡ above (suc k) a + 2 ^ k)
child_cases k a e = go (a / 2 ^ k % 2) refl
  where
    go : (r : ℕ) → a / 2 ^ k % 2 ≡ r → (a ≡ above (suc k) a) ⊎ (a ≡ above (suc k) a + 2 ^ k)
    go zero f = inl (sym e ∙ sym (above-left k a f))
    go (suc r) f = inr (sym e ∙ sym (above-right k a (omega arith)))
