-- Hanging a chunk, and taking the peaks that came, keep a store sound. Assumes nothing.
use Rattle.std.proofs.Common.{◌≡◌, ℕ, zero, suc, ◌+◌, ◌/◌, ◌%◌, ◌^◌, ◌<◌, ◌≤◌, Bool, true, false, eqb, ltb, leb, ◌⊎◌, List, ◌++◌, sym, refl, ap, ◌∙◌, subst, ap₂, inl, inr, true≢false, arith, pow_pos, ltb-true, le-ltb, lt-ltb, eq-eqb, ne_eqb, eqb-true}
use Rattle.base.specs.Pick.{pick}
use Rattle.tree.specs.Node.{sibling_from, above}
use Rattle.tree.specs.Tree.{combined, joined, climb}
use Rattle.tree.specs.State.{State, is_peak}
use Rattle.tree.proofs.Sound.{on_path, adopted, hung, Sound}
use Rattle.tree.proofs.NodeLaws.{split, above-left, above-right, beside-left, beside-right, whole_below, above_aligned, parent-right, parent_above, aligned_left, aligned_right, above_zero, child_cases}
use Rattle.tree.proofs.TreeLaws.{joined-left, joined-right, climb-suc}
use Rattle.base.proofs.PickLaws.{both_true, either}
use Rattle.tree.proofs.SoundLaws.{combined-peaks}

climb-zero : (H : List ℕ → List ℕ) (sib : ℕ → ℕ → List ℕ) (v : List ℕ) (c : ℕ) → climb H sib v c zero ≡ v
unfolding climb
climb-zero H sib v c = refl

-- ---- hanging a chunk

module _ (H : List ℕ → List ℕ) (Z : List ℕ) (N : ℕ) (r : List ℕ) (s : State) (S : Sound H Z N r s)
    (c t : ℕ) (d : List ℕ) (msg : ℕ → ℕ → List ℕ)
    (inside : above t c + 2 ^ t ≤ N) (reach : s.trust t (above t c) ≡ true) (below : (k : ℕ) → k < t → s.trust k (above k c) ≡ false)
    (hit : climb H msg (H d) c t ≡ s.hash t (above t c)) where
  -- the children of a node above c below the trusted one are not trusted
  kids : (k : ℕ) → k < t → (s.trust k (above (suc k) c) ≡ false) × (s.trust k (above (suc k) c + 2 ^ k) ≡ false)
  kids k l = go (c / 2 ^ k % 2) refl (S.pair k (above (suc k) c) (above_aligned (suc k) c) (whole_below N c (suc k) t l inside))
    where
      go : (x : ℕ) → c / 2 ^ k % 2 ≡ x → s.trust k (above (suc k) c) ≡ s.trust k (above (suc k) c + 2 ^ k)
          → (s.trust k (above (suc k) c) ≡ false) × (s.trust k (above (suc k) c + 2 ^ k) ≡ false)
      go zero e p = let f = ap (s.trust k) (above-left k c e) ∙ below k l in (f, sym p ∙ f)
      go (suc x) e p = let f = ap (s.trust k) (above-right k c (omega arith)) ∙ below k l in (p ∙ f, f)

  -- so nothing trusted is written
  pub path-untrusted : (h a : ℕ) → above h a ≡ a → on_path c t h a ≡ true → s.trust h a ≡ false
  path-untrusted h a e f =
      let g = both_true _ _ f in
      go (eqb-true _ _ g.1) (kids h (ltb-true _ _ g.0)) (child_cases h a e)
    where
      go : above (suc h) a ≡ above (suc h) c → (s.trust h (above (suc h) c) ≡ false) × (s.trust h (above (suc h) c + 2 ^ h) ≡ false)
          → (a ≡ above (suc h) a) ⊎ (a ≡ above (suc h) a + 2 ^ h) → s.trust h a ≡ false
      go p k (inl q) = ap (s.trust h) (q ∙ p) ∙ k.0
      go p k (inr q) = ap (s.trust h) (q ∙ ap (λ (x : ℕ). x + 2 ^ h) p) ∙ k.1

  pub trusted-off-path : (h a : ℕ) → above h a ≡ a → s.trust h a ≡ true → on_path c t h a ≡ false
  trusted-off-path h a e f = go (either (on_path c t h a))
    where
      go : (on_path c t h a ≡ true) ⊎ (on_path c t h a ≡ false) → on_path c t h a ≡ false
      go (inl g) = absurd (true≢false (sym f ∙ path-untrusted h a e g))
      go (inr g) = g

  -- at a left and a right child of an aligned node
  on_path-left : (k a : ℕ) → above (suc k) a ≡ a → on_path c t k a ≡ pick (ltb k t) (eqb a (above (suc k) c)) false
  on_path-left k a e = ap (λ (x : ℕ). pick (ltb k t) (eqb x (above (suc k) c)) false) e

  on_path-right : (k a : ℕ) → above (suc k) a ≡ a → on_path c t k (a + 2 ^ k) ≡ pick (ltb k t) (eqb a (above (suc k) c)) false
  on_path-right k a e = ap (λ (x : ℕ). pick (ltb k t) (eqb x (above (suc k) c)) false) (parent-right k a e)

  hung-pair : (k a : ℕ) → above (suc k) a ≡ a → a + 2 ^ suc k ≤ N → (hung H c t d msg s).trust k a ≡ (hung H c t d msg s).trust k (a + 2 ^ k)
  hung-pair k a e w =
      ap₂ (λ (b x : Bool). pick b true x) (on_path-left k a e ∙ sym (on_path-right k a e)) (S.pair k a e w)

  -- at the children of a node above c
  on_path-kids : (k : ℕ) → k < t → (on_path c t k (above (suc k) c) ≡ true) × (on_path c t k (above (suc k) c + 2 ^ k) ≡ true)
  on_path-kids k l =
      let e = above_aligned (suc k) c in
      let b : pick (ltb k t) (eqb (above (suc k) c) (above (suc k) c)) false ≡ true =
      rw (lt-ltb k t l, eq-eqb (above (suc k) c) (above (suc k) c) refl) in
      (on_path-left k (above (suc k) c) e ∙ b, on_path-right k (above (suc k) c) e ∙ b)

  on_path-on : (k : ℕ) → k < t → on_path c t k (above k c) ≡ true
  on_path-on k l = rw (lt-ltb k t l, eq-eqb (above (suc k) (above k c)) (above (suc k) c) (parent_above k c))

  on_path-off : (h a : ℕ) → t ≤ h → on_path c t h a ≡ false
  on_path-off h a l = rw (le-ltb h t l)

  -- what is held on the way, and beside it
  pub held_on : (k : ℕ) → k ≤ t → (hung H c t d msg s).hash k (above k c) ≡ climb H msg (H d) c k
  held_on k l = go (split (suc k) t)
    where
      go : (k < t) ⊎ (t < suc k) → (hung H c t d msg s).hash k (above k c) ≡ climb H msg (H d) c k
      go (inl u) = rw (on_path-on k u, eq-eqb (above k c) (above k c) refl)
      go (inr u) = let e : t ≡ k = omega arith in rw (on_path-off k (above k c) (omega arith)) (rw e at (sym hit))

  beside-is-right : (k : ℕ) → c / 2 ^ k % 2 ≡ 0 → sibling_from k c ≡ above (suc k) c + 2 ^ k
  beside-is-right k e = beside-left k c e ∙ ap (λ (x : ℕ). x + 2 ^ k) (sym (above-left k c e))

  beside-is-left : (k : ℕ) → c / 2 ^ k % 2 ≡ 1 → sibling_from k c ≡ above (suc k) c
  beside-is-left k e = omega (arith, beside-right k c e, above-right k c e)

  held-beside : (k : ℕ) → k < t → (hung H c t d msg s).hash k (sibling_from k c) ≡ msg k (sibling_from k c)
  held-beside k l = go (c / 2 ^ k % 2) refl
    where
      go : (x : ℕ) → c / 2 ^ k % 2 ≡ x → (hung H c t d msg s).hash k (sibling_from k c) ≡ msg k (sibling_from k c)
      go zero e =
          rw (ap (on_path c t k) (beside-is-right k e) ∙ (on_path-kids k l).1, ne_eqb (sibling_from k c) (above k c) (λ f. omega (arith, beside-left k c e, pow_pos k)))
      go (suc x) e =
          rw (ap (on_path c t k) (beside-is-left k (omega arith)) ∙ (on_path-kids k l).0, ne_eqb (sibling_from k c) (above k c) (λ f. omega (arith, beside-right k c (omega arith), pow_pos k)))

  up-on : (k : ℕ) → k < t
      → (hung H c t d msg s).hash (suc k) (above (suc k) c)
      ≡ H ((hung H c t d msg s).hash k (above (suc k) c) ++ (hung H c t d msg s).hash k (above (suc k) c + 2 ^ k))
  up-on k l = held_on (suc k) l ∙ climb-suc H msg (H d) c k ∙ go (c / 2 ^ k % 2) refl
    where
      go : (x : ℕ) → c / 2 ^ k % 2 ≡ x
          → joined H c k (climb H msg (H d) c k) (msg k (sibling_from k c))
          ≡ H ((hung H c t d msg s).hash k (above (suc k) c) ++ (hung H c t d msg s).hash k (above (suc k) c + 2 ^ k))
      go zero e =
          joined-left H k c (climb H msg (H d) c k) (msg k (sibling_from k c)) e
          ∙ ap₂ (λ (x y : List ℕ). H (x ++ y))
          (sym (held_on k (omega arith)) ∙ ap ((hung H c t d msg s).hash k) (sym (above-left k c e)))
          (sym (held-beside k l) ∙ ap ((hung H c t d msg s).hash k) (beside-is-right k e))
      go (suc x) e =
          let f : c / 2 ^ k % 2 ≡ 1 = omega arith in
          joined-right H k c (climb H msg (H d) c k) (msg k (sibling_from k c)) f
          ∙ ap₂ (λ (x y : List ℕ). H (x ++ y))
          (sym (held-beside k l) ∙ ap ((hung H c t d msg s).hash k) (beside-is-left k f))
          (sym (held_on k (omega arith)) ∙ ap ((hung H c t d msg s).hash k) (sym (above-right k c f)))

  trust-on : (k : ℕ) → k ≤ t → (hung H c t d msg s).trust k (above k c) ≡ true
  trust-on k l = go (split (suc k) t)
    where
      go : (k < t) ⊎ (t < suc k) → (hung H c t d msg s).trust k (above k c) ≡ true
      go (inl u) = rw (on_path-on k u)
      go (inr u) = let e : t ≡ k = omega arith in rw (on_path-off k (above k c) (omega arith)) (rw e at reach)

  -- what was trusted stays, trusted and as it was
  trust-kept : (h a : ℕ) → above h a ≡ a → s.trust h a ≡ true → (hung H c t d msg s).trust h a ≡ true
  trust-kept h a e f = rw (trusted-off-path h a e f) f

  pub held_kept : (h a : ℕ) → above h a ≡ a → s.trust h a ≡ true → (hung H c t d msg s).hash h a ≡ s.hash h a
  held_kept h a e f = rw (trusted-off-path h a e f)

  hung-up : (k a : ℕ) → above (suc k) a ≡ a → a + 2 ^ suc k ≤ N → (hung H c t d msg s).trust k a ≡ true
      → ((hung H c t d msg s).trust (suc k) a ≡ true)
      × ((hung H c t d msg s).hash (suc k) a ≡ H ((hung H c t d msg s).hash k a ++ (hung H c t d msg s).hash k (a + 2 ^ k)))
  hung-up k a e w f = go (either (on_path c t k a))
    where
      Goal : ℕ → Type 0
      Goal x = ((hung H c t d msg s).trust (suc k) x ≡ true)
          × ((hung H c t d msg s).hash (suc k) x ≡ H ((hung H c t d msg s).hash k x ++ (hung H c t d msg s).hash k (x + 2 ^ k)))

      go : (on_path c t k a ≡ true) ⊎ (on_path c t k a ≡ false) → Goal a
      go (inl b) =
          let g = both_true (ltb k t) (eqb (above (suc k) a) (above (suc k) c)) b in
          let l : k < t = ltb-true k t g.0 in
          let q : a ≡ above (suc k) c = sym e ∙ eqb-true (above (suc k) a) (above (suc k) c) g.1 in
          subst Goal (sym q) (trust-on (suc k) l, up-on k l)
      go (inr b) =
          let o : s.trust k a ≡ true = rw b at f in
          let u = S.up k a e w o in
          let o' : s.trust k (a + 2 ^ k) ≡ true = sym (S.pair k a e w) ∙ o in (
            trust-kept (suc k) a e u.0,
            held_kept (suc k) a e u.0 ∙ u.1
                ∙ ap₂ (λ (x y : List ℕ). H (x ++ y)) (sym (held_kept k a (aligned_left k a e) o)) (sym (held_kept k (a + 2 ^ k) (aligned_right k a e) o')),
          )

  hung-leaf : (x : ℕ) → x < N → (hung H c t d msg s).in_map x ≡ true
      → ((hung H c t d msg s).trust zero x ≡ true) × ((hung H c t d msg s).hash zero x ≡ H ((hung H c t d msg s).chunk x))
  hung-leaf x l f = go (either (eqb x c))
    where
      Goal : ℕ → Type 0
      Goal y = ((hung H c t d msg s).trust zero y ≡ true) × ((hung H c t d msg s).hash zero y ≡ H ((hung H c t d msg s).chunk y))

      go : (eqb x c ≡ true) ⊎ (eqb x c ≡ false) → Goal x
      go (inl b) =
          let z = above_zero c in
          let n : (hung H c t d msg s).chunk c ≡ d = rw (eq-eqb c c refl) in
          subst Goal (sym (eqb-true x c b)) (
            ap ((hung H c t d msg s).trust zero) (sym z) ∙ trust-on zero (omega arith),
            ap ((hung H c t d msg s).hash zero) (sym z) ∙ held_on zero (omega arith) ∙ climb-zero H msg (H d) c ∙ ap H (sym n),
          )
      go (inr b) =
          let o : s.in_map x ≡ true = rw b at f in
          let u = S.leaf x l o in
          let n : (hung H c t d msg s).chunk x ≡ s.chunk x = rw b in
          (trust-kept zero x (above_zero x) u.0, held_kept zero x (above_zero x) u.0 ∙ u.1 ∙ ap H (sym n))

  hung-top : (k a : ℕ) → above k a ≡ a → a + 2 ^ k ≤ N → (hung H c t d msg s).trust k a ≡ true
      → ((h b : ℕ) → above h b ≡ b → is_peak N h b ≡ true → (hung H c t d msg s).trust h b ≡ true) × (combined H Z N (hung H c t d msg s).hash ≡ r)
  hung-top k a e w f = go (either (on_path c t k a))
    where
      Old : Type 0
      Old = ((h b : ℕ) → above h b ≡ b → is_peak N h b ≡ true → s.trust h b ≡ true) × (combined H Z N s.hash ≡ r)

      old : Old → ((h b : ℕ) → above h b ≡ b → is_peak N h b ≡ true → (hung H c t d msg s).trust h b ≡ true) × (combined H Z N (hung H c t d msg s).hash ≡ r)
      old o = (
        λ h b g p. trust-kept h b g (o.0 h b g p),
        combined-peaks H Z N (hung H c t d msg s).hash s.hash (λ h b g p. held_kept h b g (o.0 h b g p)) ∙ o.1,
      )

      go : (on_path c t k a ≡ true) ⊎ (on_path c t k a ≡ false)
          → ((h b : ℕ) → above h b ≡ b → is_peak N h b ≡ true → (hung H c t d msg s).trust h b ≡ true) × (combined H Z N (hung H c t d msg s).hash ≡ r)
      go (inl b) = old (S.top t (above t c) (above_aligned t c) inside reach)
      go (inr b) = let o : s.trust k a ≡ true = rw b at f in old (S.top k a e w o)

  pub hung-sound : Sound H Z N r (hung H c t d msg s)
  hung-sound = record { pair = hung-pair; up = hung-up; leaf = hung-leaf; top = hung-top }

-- ---- taking the peaks of a datagram

module _ (H : List ℕ → List ℕ) (Z : List ℕ) (N : ℕ) (r : List ℕ) (s : State) (S : Sound H Z N r s) (msg : ℕ → ℕ → List ℕ)
    (h₀ b₀ : ℕ) (e₀ : above h₀ b₀ ≡ b₀) (p₀ : is_peak N h₀ b₀ ≡ true) (f₀ : s.trust h₀ b₀ ≡ false) (root : combined H Z N msg ≡ r) where
  -- where one peak is not trusted, nothing within 0..N-1 is
  none : (k a : ℕ) → above k a ≡ a → a + 2 ^ k ≤ N → s.trust k a ≡ true → ⊥
  none k a e w f = true≢false (sym ((S.top k a e w f).0 h₀ b₀ e₀ p₀) ∙ f₀)

  inner : (k a : ℕ) → above (suc k) a + 2 ^ suc k ≤ N → is_peak N k a ≡ false
  inner k a w = go (either (is_peak N k a))
    where
      go : (is_peak N k a ≡ true) ⊎ (is_peak N k a ≡ false) → is_peak N k a ≡ false
      go (inl b) =
          let g = both_true (leb (a + 2 ^ k) N) (ltb N (above (suc k) a + 2 ^ suc k)) b in
          let u : N < above (suc k) a + 2 ^ suc k = ltb-true N (above (suc k) a + 2 ^ suc k) g.1 in
          absurd (omega arith)
      go (inr b) = b

  pub adopted-sound : Sound H Z N r (adopted N msg s)
  adopted-sound = record {
    pair = λ k a e w.
        rw (inner k a (rw e w), inner k (a + 2 ^ k) (rw (parent-right k a e) w)) (S.pair k a e w);
    up = λ k a e w f.
        let o : s.trust k a ≡ true = rw (inner k a (rw e w)) at f in
        absurd (none k a (aligned_left k a e) (omega arith) o);
    leaf = λ x l f. absurd (none zero x (above_zero x) (omega arith) (S.leaf x l f).0);
    top = λ k a e w f. (
      λ h b g p. rw p,
      combined-peaks H Z N (adopted N msg s).hash msg (λ h b g p. rw p) ∙ root,
    );
  }
