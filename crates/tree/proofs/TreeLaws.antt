-- What a node of the tree holds, the peaks of the true tree combined, the climb. Assumes nothing.
use Rattle.std.proofs.Common.{◌≡◌, ℕ, zero, suc, ◌+◌, ◌/◌, ◌%◌, ◌^◌, ◌<◌, ◌≤◌, ◌⊎◌, List, ◌++◌, sym, refl, ap, ◌∙◌, ap₂, inl, inr, le_refl, arith, pow_pos, le-ltb, lt-ltb, le-leb}
use borrow.Author.Tests.{lt-leb}
use Rattle.tree.specs.Node.{sibling_from, above}
use Rattle.tree.specs.Pack.{levels}
use Rattle.tree.specs.Tree.{tree, root, given, combined, joined, climb}
use Rattle.tree.proofs.NodeLaws.{split, above_in, above-left, above-right}

-- ---- what a node holds

module _ (H : List ℕ → List ℕ) (Z : List ℕ) (N : ℕ) where
  module _ (chunk : ℕ → List ℕ) where
    pub tree-empty : (h a : ℕ) → N ≤ a → tree H Z N chunk h a ≡ Z
    unfolding tree
    tree-empty zero a e = rw (le-leb N a e)
    tree-empty (suc h) a e = rw (le-leb N a e)

    pub tree-leaf : (a : ℕ) → a < N → tree H Z N chunk zero a ≡ H (chunk a)
    unfolding tree
    tree-leaf a e = rw (lt-leb N a e)

    pub tree-step : (h a : ℕ) → a < N → tree H Z N chunk (suc h) a ≡ H (tree H Z N chunk h a ++ tree H Z N chunk h (a + 2 ^ h))
    unfolding tree
    tree-step h a e = rw (lt-leb N a e)

  module _ (held : ℕ → ℕ → List ℕ) where
    pub given-empty : (h a : ℕ) → N ≤ a → given H Z N held h a ≡ Z
    unfolding given
    given-empty zero a e = rw (le-leb N a e)
    given-empty (suc h) a e = rw (le-leb N a e)

    pub given-whole : (h a : ℕ) → a + 2 ^ h ≤ N → given H Z N held h a ≡ held h a
    unfolding given
    given-whole zero a e = rw (lt-leb N a (omega arith))
    given-whole (suc h) a e = rw (lt-leb N a (omega (arith, pow_pos h)), le-leb (a + 2 ^ suc h) N e)

    pub given-mixed : (h a : ℕ) → a < N → N < a + 2 ^ suc h
        → given H Z N held (suc h) a ≡ H (given H Z N held h a ++ given H Z N held h (a + 2 ^ h))
    unfolding given
    given-mixed h a e f = rw (lt-leb N a e, lt-leb (a + 2 ^ suc h) N f)

  -- the peaks of the true tree combine to its root
  pub given-tree : (chunk : ℕ → List ℕ) (h a : ℕ) → given H Z N (tree H Z N chunk) h a ≡ tree H Z N chunk h a
  given-tree chunk zero a = go (split N a)
    where
      go : (N ≤ a) ⊎ (a < N) → given H Z N (tree H Z N chunk) zero a ≡ tree H Z N chunk zero a
      go (inl e) = given-empty (tree H Z N chunk) zero a e ∙ sym (tree-empty chunk zero a e)
      go (inr e) = given-whole (tree H Z N chunk) zero a (omega arith)
  given-tree chunk (suc h) a = go (split N a) (split (a + 2 ^ suc h) N) (given-tree chunk h a) (given-tree chunk h (a + 2 ^ h))
    where
      go : (N ≤ a) ⊎ (a < N) → (a + 2 ^ suc h ≤ N) ⊎ (N < a + 2 ^ suc h)
          → given H Z N (tree H Z N chunk) h a ≡ tree H Z N chunk h a
          → given H Z N (tree H Z N chunk) h (a + 2 ^ h) ≡ tree H Z N chunk h (a + 2 ^ h)
          → given H Z N (tree H Z N chunk) (suc h) a ≡ tree H Z N chunk (suc h) a
      go (inl e) w l r = given-empty (tree H Z N chunk) (suc h) a e ∙ sym (tree-empty chunk (suc h) a e)
      go (inr e) (inl w) l r = given-whole (tree H Z N chunk) (suc h) a w
      go (inr e) (inr w) l r =
          given-mixed (tree H Z N chunk) h a e w ∙ ap₂ (λ (x y : List ℕ). H (x ++ y)) l r ∙ sym (tree-step chunk h a e)

  pub combined-root : (chunk : ℕ → List ℕ) → combined H Z N (tree H Z N chunk) ≡ root H Z N chunk
  unfolding combined root
  combined-root chunk = given-tree chunk (levels N) 0

module _ (H : List ℕ → List ℕ) (h c : ℕ) (x y : List ℕ) where
  pub joined-left : c / 2 ^ h % 2 ≡ 0 → joined H c h x y ≡ H (x ++ y)
  joined-left e =
      let f = above-left h c e in
      rw (lt-ltb c (above (suc h) c + 2 ^ h) (omega (arith, above_in h c)))

  pub joined-right : c / 2 ^ h % 2 ≡ 1 → joined H c h x y ≡ H (y ++ x)
  joined-right e =
      let f = above-right h c e in
      rw (le-ltb c (above (suc h) c + 2 ^ h) (omega (arith, above_in h c)))

-- one step of the climb, as a loop takes it
pub climb-suc : (H : List ℕ → List ℕ) (sib : ℕ → ℕ → List ℕ) (v : List ℕ) (c h : ℕ)
    → climb H sib v c (suc h) ≡ joined H c h (climb H sib v c h) (sib h (sibling_from h c))
unfolding climb
climb-suc H sib v c h = refl

-- ---- the climb: with the siblings of any hashes g that hang together on the way, it gives g's hash

module _ (H : List ℕ → List ℕ) (g : ℕ → ℕ → List ℕ) where
  pub joined_is : (c h : ℕ) → joined H c h (g h (above h c)) (g h (sibling_from h c)) ≡ H (g h (above (suc h) c) ++ g h (above (suc h) c + 2 ^ h))
  joined_is c h = go (c / 2 ^ h % 2) refl
    where
      go : (x : ℕ) → c / 2 ^ h % 2 ≡ x → joined H c h (g h (above h c)) (g h (sibling_from h c)) ≡ H (g h (above (suc h) c) ++ g h (above (suc h) c + 2 ^ h))
      go zero e =
          let f = above-left h c e in
          rw (lt-ltb c (above (suc h) c + 2 ^ h) (omega (arith, above_in h c)), f)
      go (suc x) e =
          let f = above-right h c (omega arith) in
          rw (le-ltb c (above (suc h) c + 2 ^ h) (omega (arith, above_in h c)), ← f)

  pub climb-gives : (c h : ℕ)
      → ((k : ℕ) → k < h → g (suc k) (above (suc k) c) ≡ H (g k (above (suc k) c) ++ g k (above (suc k) c + 2 ^ k)))
      → climb H g (g zero c) c h ≡ g h (above h c)
  unfolding climb
  climb-gives c zero hang = let e : above zero c ≡ c = omega (arith, above_in zero c) in rw e
  climb-gives c (suc h) hang =
      ap (λ (v : List ℕ). joined H c h v (g h (sibling_from h c))) (climb-gives c h (λ k l. hang k (omega arith)))
      ∙ joined_is c h
      ∙ sym (hang h (le_refl (suc h)))

-- the true siblings give the true node, at each height
module _ (H : List ℕ → List ℕ) (Z : List ℕ) (N : ℕ) (chunk : ℕ → List ℕ) where
  pub climb-true : (c h : ℕ) → c < N → climb H (tree H Z N chunk) (H (chunk c)) c h ≡ tree H Z N chunk h (above h c)
  climb-true c h l =
      ap (λ (v : List ℕ). climb H (tree H Z N chunk) v c h) (sym (tree-leaf H Z N chunk c l))
      ∙ climb-gives H (tree H Z N chunk) c h (λ k _. tree-step H Z N chunk k (above (suc k) c) (omega (arith, above_in (suc k) c)))
