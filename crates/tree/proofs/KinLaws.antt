-- A node's parent and sibling by its number: which child it is shows in the bit above its ones. Assumes nothing.
use Rattle.std.proofs.Common.{◌≡◌, ℕ, zero, suc, ◌+◌, ◌-◌, ◌*◌, ◌/◌, ◌%◌, ◌^◌, ◌≤◌, refl, sym, ap, ◌∙◌, arith, pow_pos}
use lib.Arith.{digits_div}
use lib.Pow.{shl-shr}
use Rattle.tree.specs.Bin.{height, first, last}
use Rattle.tree.specs.Node.{above}
use Rattle.tree.specs.Steps.{parent, sibling}
use Rattle.tree.proofs.BinLaws.{node_of, first-bin, bin_of, pow-height}
use Rattle.tree.proofs.NodeLaws.{above-left, above-right, beside-left, beside-right, unique}

first_of : (b : ℕ) → first b ≡ (node_of b).0 * 2 ^ height b
first_of b = ap first (node_of b).1 ∙ first-bin (height b) (node_of b).0

-- how many nodes of its height stand left of it
place-first : (b : ℕ) → first b / 2 ^ height b ≡ (node_of b).0
place-first b = ap (λ (x : ℕ). x / 2 ^ height b) (first_of b) ∙ shl-shr (node_of b).0 (height b)

place : (b : ℕ) → b / (2 * 2 ^ height b) ≡ first b / 2 ^ height b
place b =
    let j = (node_of b).0 in
    let w = 2 ^ height b in
    let e : b ≡ j * (2 * w) + (w - 1) = omega (arith, (node_of b).1, pow_pos (height b)) in
    ap (λ (x : ℕ). x / (2 * w)) e ∙ digits_div j (omega (arith, pow_pos (height b))) ∙ sym (place-first b)

aligned : (b : ℕ) → above (height b) (first b) ≡ first b
aligned b = ap (λ (x : ℕ). x * 2 ^ height b) (place-first b) ∙ sym (first_of b)

-- a node that covers a chunk is the one above it of its height
pub node-above : (b c : ℕ) → first b ≤ c → c ≤ last b → (h : ℕ) × (first b ≡ above h c) × (last b + 1 ≡ above h c + 2 ^ h)
unfolding last
node-above b c f l =
    let e : above (height b) c ≡ first b = unique (height b) (first b) c (aligned b) f (omega (arith, pow_pos (height b))) in
    (height b, sym e, omega (arith, e, pow_pos (height b)))

-- by the height h and the width w that the code has
module _ (b h w : ℕ) (e : h ≡ height b) (g : w ≡ 2 ^ h) where
  width : w ≡ 2 ^ height b
  width = g ∙ ap (λ (x : ℕ). 2 ^ x) e

  bit-left : b / (2 * w) % 2 ≡ 0 → first b / 2 ^ height b % 2 ≡ 0
  bit-left t = rw (width, place b) at t

  bit-right : (b / (2 * w) % 2 ≡ 0 → ⊥) → first b / 2 ^ height b % 2 ≡ 1
  bit-right t =
      let u : b / (2 * w) % 2 ≡ 1 = omega arith in
      rw (width, place b) at u

  pub parent-of-left : b / (2 * w) % 2 ≡ 0 → parent b ≡ b + w
  unfolding parent
  parent-of-left t =
      omega (arith, width, above-left (height b) (first b) (bit-left t), aligned b, bin_of b, pow_pos (height b))

  pub parent-of-right : (b / (2 * w) % 2 ≡ 0 → ⊥) → parent b + w ≡ b
  unfolding parent
  parent-of-right t =
      omega (arith, width, above-right (height b) (first b) (bit-right t), aligned b, bin_of b, pow_pos (height b))

  pub sibling-of-left : b / (2 * w) % 2 ≡ 0 → sibling b ≡ b + 2 * w
  unfolding sibling
  sibling-of-left t =
      omega (arith, width, beside-left (height b) (first b) (bit-left t), aligned b, bin_of b, pow_pos (height b))

  pub sibling-of-right : (b / (2 * w) % 2 ≡ 0 → ⊥) → sibling b + 2 * w ≡ b
  unfolding sibling
  sibling-of-right t =
      omega (arith, width, beside-right (height b) (first b) (bit-right t), aligned b, bin_of b, pow_pos (height b))

-- the parent lies halfway to the sibling
pub halfway : (b : ℕ) → (b + sibling b ≡ 2 * parent b) × (sibling b ≤ 3 * b + 2)
halfway b = go (b / (2 * 2 ^ height b) % 2) refl
  where
    go : (t : ℕ) → b / (2 * 2 ^ height b) % 2 ≡ t → (b + sibling b ≡ 2 * parent b) × (sibling b ≤ 3 * b + 2)
    go zero e =
        let s = sibling-of-left b (height b) (2 ^ height b) refl refl e in
        let p = parent-of-left b (height b) (2 ^ height b) refl refl e in
        (omega (arith, s, p), omega (arith, s, pow-height b))
    go (suc t) e =
        let d : b / (2 * 2 ^ height b) % 2 ≡ 0 → ⊥ = λ z. omega arith in
        let s = sibling-of-right b (height b) (2 ^ height b) refl refl d in
        let p = parent-of-right b (height b) (2 ^ height b) refl refl d in
        (omega (arith, s, p), omega (arith, s))
