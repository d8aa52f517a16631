-- The node of a range of chunks: there is one exactly where a node covers the range. Assumes nothing.
use Rattle.std.proofs.Common.{◌≡◌, ℕ, ◌+◌, ◌*◌, ◌^◌, Bool, true, false, eqb, refl, sym, ap, ◌∙◌, arith, pow_pos, eq-eqb, ne_eqb, eqb-true}
use borrow.Author.Tests.{eqb-false}
use Rattle.tree.specs.Bin.{height, first, last}
use Rattle.tree.specs.Range.{node_of_range}
use Rattle.std.specs.Prelude.{Some, None}
use Rattle.std.specs.Bool.{then_some}
use Rattle.tree.proofs.BinLaws.{first_plus_last, bin_of}

-- ---- the first chunk of f + l settles it

node_if : (f l : ℕ) → first (f + l) ≡ f → node_of_range f l ≡ Some (f + l)
unfolding node_of_range
node_if f l e =
    let g : last (f + l) ≡ l = omega (arith, first_plus_last (f + l)) in
    rw (eq-eqb (first (f + l)) f e, eq-eqb (last (f + l)) l g)

none_if : (f l : ℕ) → (first (f + l) ≡ f → ⊥) → node_of_range f l ≡ None
unfolding node_of_range
none_if f l n = rw (ne_eqb (first (f + l)) f n)

-- ---- the same by the sum that the code compares

sum_first : (b f : ℕ) → 2 * f + 2 ^ height b ≡ b + 1 → first b ≡ f
unfolding first
sum_first b f e = omega arith

first-sum : (b f : ℕ) → first b ≡ f → 2 * f + 2 ^ height b ≡ b + 1
first-sum b f e = omega (arith, bin_of b, pow_pos (height b))

-- h is its height and w its width
module _ (f l h w : ℕ) (e : h ≡ height (f + l)) (g : w ≡ 2 ^ h) where
  width : w ≡ 2 ^ height (f + l)
  width = g ∙ ap (λ (x : ℕ). 2 ^ x) e

  pub range_by : then_some (eqb (2 * f + w) (f + l + 1)) (f + l) ≡ node_of_range f l
  range_by = go (eqb (2 * f + w) (f + l + 1)) refl
    where
      go : (t : Bool) → eqb (2 * f + w) (f + l + 1) ≡ t → then_some t (f + l) ≡ node_of_range f l
      go true t =
          let q = eqb-true (2 * f + w) (f + l + 1) t in
          sym (node_if f l (sum_first (f + l) f (omega (arith, width, q))))
      go false t =
          let q = eqb-false (2 * f + w) (f + l + 1) t in
          sym (none_if f l (λ z. q (omega (arith, width, first-sum (f + l) f z))))

-- ---- node_of_range f l is Some b exactly where node b covers f..l

pub range_is : (f l b : ℕ) → first b ≡ f → last b ≡ l → node_of_range f l ≡ Some b
range_is f l b e g =
    let s : f + l ≡ b = omega (arith, first_plus_last b) in
    node_if f l (ap first s ∙ e) ∙ ap Some s

pub range_means : (f l b : ℕ) → node_of_range f l ≡ Some b → (first b ≡ f) × (last b ≡ l)
range_means f l b e = go (eqb (first (f + l)) f) refl
  where
    go : (t : Bool) → eqb (first (f + l)) f ≡ t → (first b ≡ f) × (last b ≡ l)
    go true q =
        let p = eqb-true (first (f + l)) f q in
        let n = node_if f l p in
        let s : b ≡ f + l = cc in
        let g : first b ≡ f = ap first s ∙ p in
        (g, omega (arith, first_plus_last b))
    go false q =
        let n = none_if f l (eqb-false (first (f + l)) f q) in
        let z : ◌≡◌ {A = ℕ} 0 1 = cc in
        absurd (omega arith)

pub range-node : (f l b : ℕ) → (first b ≡ f → last b ≡ l → node_of_range f l ≡ Some b) × (node_of_range f l ≡ Some b → (first b ≡ f) × (last b ≡ l))
range-node f l b = (range_is f l b, range_means f l b)
