-- A started store and a built one are sound. Assumes nothing.
use Rattle.std.proofs.Common.{◌≡◌, ℕ, zero, suc, ◌+◌, ◌^◌, ◌<◌, ◌≤◌, true, false, eqb, ltb, leb, ◌⊎◌, List, sym, refl, ap, ◌∙◌, inl, inr, true≢false, arith, pow_pos, ltb-true, eq-eqb, ne_eqb, eqb-true, le-leb, leb-true}
use Rattle.base.specs.Pick.{pick}
use Rattle.tree.specs.Node.{above}
use Rattle.tree.specs.Pack.{levels}
use Rattle.tree.specs.Tree.{root, combined}
use Rattle.tree.specs.State.{is_peak}
use Rattle.tree.proofs.Sound.{started, built, Sound}
use Rattle.tree.proofs.NodeLaws.{split, above-inside}
use Rattle.tree.proofs.PackLaws.{levels-holds, high_bound}
use Rattle.tree.proofs.TreeLaws.{tree-leaf, tree-step, given-whole, combined-root}
use Rattle.base.proofs.PickLaws.{both_true}

at-root : (N h a : ℕ) → pick (eqb h (levels N)) (eqb a 0) false ≡ true → (h ≡ levels N) × (a ≡ 0)
at-root N h a e = let g = both_true (eqb h (levels N)) (eqb a 0) e in (eqb-true h (levels N) g.0, eqb-true a 0 g.1)

below_root : (N k a : ℕ) → a + 2 ^ suc k ≤ N → (b : ℕ) → pick (eqb k (levels N)) (eqb b 0) false ≡ false
below_root N k a w b =
    let l = high_bound N (suc k) (omega arith) in
    rw (ne_eqb k (levels N) (λ e. omega arith))

-- where the root lies within 0..N-1 it is the one peak
one-peak : (N h b : ℕ) → 2 ^ levels N ≤ N → is_peak N h b ≡ true → (h ≡ levels N) × (b ≡ 0)
one-peak N h b w p =
    let g = both_true (leb (b + 2 ^ h) N) (ltb N (above (suc h) b + 2 ^ suc h)) p in
    go (leb-true (b + 2 ^ h) N g.0) (ltb-true N (above (suc h) b + 2 ^ suc h) g.1) (split (suc h) (levels N))
  where
    go : b + 2 ^ h ≤ N → N < above (suc h) b + 2 ^ suc h → (h < levels N) ⊎ (levels N < suc h) → (h ≡ levels N) × (b ≡ 0)
    go i o (inl l) = absurd (omega (arith, above-inside (levels N) (suc h) b l (omega (arith, levels-holds N, pow_pos h))))
    go i o (inr l) =
        let m = high_bound N h (omega arith) in
        let e : h ≡ levels N = omega arith in
        let f = ap (λ (x : ℕ). 2 ^ x) e in
        (e, omega (arith, levels-holds N))

module _ (H : List ℕ → List ℕ) (Z : List ℕ) (N : ℕ) (r : List ℕ) (hashes : ℕ → ℕ → List ℕ) (bytes : ℕ → List ℕ) where
  root-whole : 2 ^ levels N ≤ N → combined H Z N (started N r hashes bytes).hash ≡ r
  unfolding combined
  root-whole v =
      let e : (started N r hashes bytes).hash (levels N) 0 ≡ r = rw (eq-eqb (levels N) (levels N) refl) in
      given-whole H Z N (started N r hashes bytes).hash (levels N) 0 (omega arith) ∙ e

  pub started-sound : Sound H Z N r (started N r hashes bytes)
  started-sound = record {
    pair = λ k a e w. below_root N k a w a ∙ sym (below_root N k a w (a + 2 ^ k));
    up = λ k a e w f. absurd (true≢false (sym f ∙ below_root N k a w a));
    leaf = λ x l f. absurd (true≢false (sym f));
    top = λ k a e w f. top k a w (at-root N k a f);
  }
    where
      top : (k a : ℕ) → a + 2 ^ k ≤ N → (k ≡ levels N) × (a ≡ 0)
          → ((h b : ℕ) → above h b ≡ b → is_peak N h b ≡ true → (started N r hashes bytes).trust h b ≡ true) × (combined H Z N (started N r hashes bytes).hash ≡ r)
      top k a w q =
          let v : 2 ^ levels N ≤ N = rw q.0 at (let u : 2 ^ k ≤ N = omega arith in u) in (
            λ h b g p. let o = one-peak N h b v p in rw (eq-eqb h (levels N) o.0, eq-eqb b 0 o.1),
            root-whole v,
          )

module _ (H : List ℕ → List ℕ) (Z : List ℕ) (N : ℕ) (chunk : ℕ → List ℕ) where
  built-trust : (h a : ℕ) → a + 2 ^ h ≤ N → (built H Z N chunk).trust h a ≡ true
  built-trust h a w = rw (le-leb (a + 2 ^ h) N w)

  pub built-sound : Sound H Z N (root H Z N chunk) (built H Z N chunk)
  built-sound = record {
    pair = λ k a e w. built-trust k a (omega arith) ∙ sym (built-trust k (a + 2 ^ k) (omega arith));
    up = λ k a e w f. (built-trust (suc k) a w, tree-step H Z N chunk k a (omega (arith, pow_pos k)));
    leaf = λ x l f. (built-trust zero x (omega arith), tree-leaf H Z N chunk x l);
    top = λ k a e w f. (
      λ h b g p. built-trust h b (leb-true (b + 2 ^ h) N (both_true (leb (b + 2 ^ h) N) (ltb N (above (suc h) b + 2 ^ suc h)) p).0),
      combined-root H Z N chunk,
    );
  }
