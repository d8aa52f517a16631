-- Sound stores: what the peaks give, and what holds where two stores agree. Assumes nothing.
use Rattle.std.proofs.Common.{◌≡◌, ℕ, zero, suc, ◌+◌, ◌/◌, ◌%◌, ◌^◌, ◌<◌, ◌≤◌, true, ltb, leb, ◌⊎◌, List, ◌++◌, sym, refl, ap, ◌∙◌, ap₂, inl, inr, arith, pow_pos, lt-ltb, le-leb, leb-true}
use Rattle.tree.specs.Node.{above}
use Rattle.tree.specs.Pack.{levels}
use Rattle.tree.specs.Tree.{given, combined}
use Rattle.tree.specs.State.{State, is_peak}
use Rattle.tree.proofs.Sound.{Sound}
use Rattle.tree.specs.Walk.{Hangs}
use Rattle.tree.proofs.NodeLaws.{split, above-left, above-right, above-top, whole_down, above_aligned, parent-right, aligned_left, aligned_right, above_zero}
use Rattle.tree.proofs.PackLaws.{levels-holds}
use Rattle.tree.proofs.TreeLaws.{given-empty, given-whole, given-mixed}
use Rattle.base.proofs.PickLaws.{both_true}

-- ---- what the peaks give depends on the peaks alone

module _ (H : List ℕ → List ℕ) (Z : List ℕ) (N : ℕ) (x y : ℕ → ℕ → List ℕ)
    (same : (h b : ℕ) → above h b ≡ b → is_peak N h b ≡ true → x h b ≡ y h b) where
  peak-is : (h a : ℕ) → a + 2 ^ h ≤ N → N < above (suc h) a + 2 ^ suc h → is_peak N h a ≡ true
  peak-is h a w p = rw (le-leb (a + 2 ^ h) N w, lt-ltb N (above (suc h) a + 2 ^ suc h) p)

  given-peaks : (h a : ℕ) → above h a ≡ a → N < above (suc h) a + 2 ^ suc h → given H Z N x h a ≡ given H Z N y h a
  given-peaks zero a e p = go (split N a)
    where
      go : (N ≤ a) ⊎ (a < N) → given H Z N x zero a ≡ given H Z N y zero a
      go (inl m) = given-empty H Z N x zero a m ∙ sym (given-empty H Z N y zero a m)
      go (inr m) =
          let w : a + 2 ^ zero ≤ N = omega arith in
          given-whole H Z N x zero a w ∙ same zero a e (peak-is zero a w p) ∙ sym (given-whole H Z N y zero a w)
  given-peaks (suc h) a e p =
      go (split N a) (split (a + 2 ^ suc h) N)
      (λ m. given-peaks h a (aligned_left h a e) (rw e m))
      (λ m. given-peaks h (a + 2 ^ h) (aligned_right h a e) (rw (parent-right h a e) m))
    where
      go : (N ≤ a) ⊎ (a < N) → (a + 2 ^ suc h ≤ N) ⊎ (N < a + 2 ^ suc h)
          → (N < a + 2 ^ suc h → given H Z N x h a ≡ given H Z N y h a)
          → (N < a + 2 ^ suc h → given H Z N x h (a + 2 ^ h) ≡ given H Z N y h (a + 2 ^ h))
          → given H Z N x (suc h) a ≡ given H Z N y (suc h) a
      go (inl m) w l r = given-empty H Z N x (suc h) a m ∙ sym (given-empty H Z N y (suc h) a m)
      go (inr m) (inl w) l r = given-whole H Z N x (suc h) a w ∙ same (suc h) a e (peak-is (suc h) a w p) ∙ sym (given-whole H Z N y (suc h) a w)
      go (inr m) (inr w) l r =
          given-mixed H Z N x h a m w ∙ ap₂ (λ (u v : List ℕ). H (u ++ v)) (l w) (r w) ∙ sym (given-mixed H Z N y h a m w)

  pub combined-peaks : combined H Z N x ≡ combined H Z N y
  unfolding combined
  combined-peaks =
      given-peaks (levels N) 0 (above-top (levels N) 0 (pow_pos (levels N)))
      (omega (arith, levels-holds N, pow_pos (levels N)))

-- ---- a chunk in the map of a sound store hangs

module _ (H : List ℕ → List ℕ) (Z : List ℕ) (N : ℕ) (r : List ℕ) (s : State) (S : Sound H Z N r s) where
  left-trusted : (x k : ℕ) → above (suc k) x + 2 ^ suc k ≤ N → s.trust k (above k x) ≡ true → s.trust k (above (suc k) x) ≡ true
  left-trusted x k w f = go (x / 2 ^ k % 2) refl
    where
      go : (y : ℕ) → x / 2 ^ k % 2 ≡ y → s.trust k (above (suc k) x) ≡ true
      go zero e = ap (s.trust k) (above-left k x e) ∙ f
      go (suc y) e = S.pair k (above (suc k) x) (above_aligned (suc k) x) w ∙ ap (s.trust k) (above-right k x (omega arith)) ∙ f

  trusted-up : (x : ℕ) → x < N → s.in_map x ≡ true → (k : ℕ) → above k x + 2 ^ k ≤ N → s.trust k (above k x) ≡ true
  trusted-up x l f zero w = ap (s.trust zero) (above_zero x) ∙ (S.leaf x l f).0
  trusted-up x l f (suc k) w =
      (S.up k (above (suc k) x) (above_aligned (suc k) x) w (left-trusted x k w (trusted-up x l f k (whole_down N x k w)))).0

  -- both children of the node above x at height k + 1
  children-trusted : (x : ℕ) → x < N → s.in_map x ≡ true → (k : ℕ) → above (suc k) x + 2 ^ suc k ≤ N
      → (s.trust k (above (suc k) x) ≡ true) × (s.trust k (above (suc k) x + 2 ^ k) ≡ true)
  children-trusted x l f k w =
      let t = left-trusted x k w (trusted-up x l f k (whole_down N x k w)) in
      (t, sym (S.pair k (above (suc k) x) (above_aligned (suc k) x) w) ∙ t)

  pub sound-hangs : (x : ℕ) → x < N → s.in_map x ≡ true → Hangs H Z N r s x
  sound-hangs x l f =
      let t = S.top zero x (above_zero x) (omega arith) (S.leaf x l f).0 in
      record {
        peaks-held = t.0;
        top = t.1;
        leaf-held = (S.leaf x l f).0;
        leaf = (S.leaf x l f).1;
        up-held = λ k w. trusted-up x l f (suc k) w;
        children-held = λ k w. children-trusted x l f k w;
        up = λ k w. (S.up k (above (suc k) x) (above_aligned (suc k) x) w (children-trusted x l f k w).0).1;
      }

-- ---- a store sound at the nodes within 0..N-1 is sound, whatever it says elsewhere

pub sound-agree : (H : List ℕ → List ℕ) (Z : List ℕ) (N : ℕ) (r : List ℕ) (s t : State)
    → ((h a : ℕ) → above h a ≡ a → a + 2 ^ h ≤ N → (s.hash h a ≡ t.hash h a) × (s.trust h a ≡ t.trust h a))
    → ((x : ℕ) → x < N → (s.in_map x ≡ t.in_map x) × (s.chunk x ≡ t.chunk x))
    → Sound H Z N r s → Sound H Z N r t
sound-agree H Z N r s t n c S = record {
  pair = λ k a e w.
      sym (n k a (aligned_left k a e) (omega arith)).1 ∙ S.pair k a e w ∙ (n k (a + 2 ^ k) (aligned_right k a e) (omega arith)).1;
  up = λ k a e w f.
      let u = S.up k a e w ((n k a (aligned_left k a e) (omega arith)).1 ∙ f) in (
        sym (n (suc k) a e w).1 ∙ u.0,
        sym (n (suc k) a e w).0 ∙ u.1
            ∙ ap₂ (λ (x y : List ℕ). H (x ++ y)) (n k a (aligned_left k a e) (omega arith)).0 (n k (a + 2 ^ k) (aligned_right k a e) (omega arith)).0,
      );
  leaf = λ x l f.
      let u = S.leaf x l ((c x l).0 ∙ f) in
      let q = n zero x (above_zero x) (omega arith) in
      (sym q.1 ∙ u.0, sym q.0 ∙ u.1 ∙ ap H (c x l).1);
  top = λ k a e w f.
      let u = S.top k a e w ((n k a e w).1 ∙ f) in (
        λ h b g p. sym (n h b g (inside h b p)).1 ∙ u.0 h b g p,
        combined-peaks H Z N t.hash s.hash (λ h b g p. sym (n h b g (inside h b p)).0) ∙ u.1,
      );
}
  where
    inside : (h b : ℕ) → is_peak N h b ≡ true → b + 2 ^ h ≤ N
    inside h b p = leb-true (b + 2 ^ h) N (both_true (leb (b + 2 ^ h) N) (ltb N (above (suc h) b + 2 ^ suc h)) p).0
