-- A room after the peaks and the path of a chunk were written: what each node shows. For the hash room and for the row of trusted nodes. Assumes nothing.
use mathlib.Core.Path.{◌≡◌, refl, sym, ap, ◌∙◌, subst}
use mathlib.Core.Logic.{◌⊎◌, inl, inr, ◌≢◌}
use mathlib.Core.Bool.{Bool, true, false, true≢false}
use mathlib.Core.List.{List}
use Prim.Native.Nat.{ℕ, zero, suc, ◌+◌, ◌/◌, ◌%◌, ◌^◌, ◌<◌}
use native.Mathlib.Omega.{arith}
use native.Mathlib.Decide.{ℕ_discrete}
use borrow.Author.Tests.{lt-ltb, le-ltb, eq-eqb, ne_eqb, eqb-true, eqb-false, leb-true}
use lib.Dec.{leb, ltb, eqb}
use lib.Pow.{pow_pos}
use Rattle.base.specs.Pick.{pick}
use Rattle.tree.specs.Bin.{bin}
use Rattle.tree.specs.Node.{sibling_from, above}
use Rattle.tree.specs.Pack.{levels}
use Rattle.tree.specs.State.{is_peak}
use Rattle.tree.proofs.Sound.{on_path}
use Rattle.verdict.specs.Room.{Digest}
use Rattle.store.specs.Storing.{Put}
use Rattle.store.specs.Steps.{put_peaks, put_path, put_if}
use Rattle.tree.proofs.BinLaws.{bin_inj}
use Rattle.tree.proofs.NodeLaws.{split, above-left, above-right, beside-left, beside-right, above_aligned, parent-right, parent_above, aligned_left, aligned_right, child_cases}
use Rattle.tree.proofs.PackLaws.{high_bound}
use Rattle.base.proofs.PickLaws.{both_true, either}
use Rattle.tree.proofs.PeakTests.{peak-bit, bit-peak}

-- ---- nodes by their numbers

pub bin_eq : (h a h' a' : ℕ) → above h a ≡ a → above h' a' ≡ a' → bin h a ≡ bin h' a' → (h ≡ h') × (a ≡ a')
bin_eq h a h' a' e f q =
    let r = bin_inj h (a / 2 ^ h) h' (a' / 2 ^ h') (ap (bin h) e ∙ q ∙ sym (ap (bin h') f)) in
    (r.0, sym e ∙ r.1 ∙ f)

beside_aligned : (h c : ℕ) → above h (sibling_from h c) ≡ sibling_from h c
beside_aligned h c = go (ltb c (above (suc h) c + 2 ^ h))
  where
    go : (b : Bool) → above h (pick b (above (suc h) c + 2 ^ h) (above (suc h) c)) ≡ pick b (above (suc h) c + 2 ^ h) (above (suc h) c)
    go true = aligned_right h (above (suc h) c) (above_aligned (suc h) c)
    go false = aligned_left h (above (suc h) c) (above_aligned (suc h) c)

beside-parent : (h c : ℕ) → above (suc h) (sibling_from h c) ≡ above (suc h) c
beside-parent h c = go (ltb c (above (suc h) c + 2 ^ h))
  where
    go : (b : Bool) → above (suc h) (pick b (above (suc h) c + 2 ^ h) (above (suc h) c)) ≡ above (suc h) c
    go true = parent-right h (above (suc h) c) (above_aligned (suc h) c)
    go false = above_aligned (suc h) c

pub own_not_beside : (h c : ℕ) → above h c ≢ sibling_from h c
own_not_beside h c q = go (c / 2 ^ h % 2) refl
  where
    go : (r : ℕ) → c / 2 ^ h % 2 ≡ r → ⊥
    go zero e = omega (arith, beside-left h c e, pow_pos h, q)
    go (suc r) e = omega (arith, beside-right h c (omega arith), pow_pos h, q)

beside_kid : (h c a : ℕ) → above h a ≡ a → above (suc h) a ≡ above (suc h) c → a ≢ above h c → a ≡ sibling_from h c
beside_kid h c a e p d = go (c / 2 ^ h % 2) refl (child_cases h a e)
  where
    go : (r : ℕ) → c / 2 ^ h % 2 ≡ r → (a ≡ above (suc h) a) ⊎ (a ≡ above (suc h) a + 2 ^ h) → a ≡ sibling_from h c
    go zero f (inl q) = absurd (d (q ∙ p ∙ above-left h c f))
    go zero f (inr q) = omega (arith, q, p, beside-left h c f, above-left h c f)
    go (suc r) f (inl q) = omega (arith, q, p, beside-right h c (omega arith), above-right h c (omega arith))
    go (suc r) f (inr q) = absurd (d (omega (arith, q, p, above-right h c (omega arith))))

-- ---- tests on heights

ltb_more : (k t : ℕ) → k ≢ t → ltb k (suc t) ≡ ltb k t
ltb_more k t d = go (split (suc k) t)
  where
    go : (k < t) ⊎ (t < suc k) → ltb k (suc t) ≡ ltb k t
    go (inl l) = lt-ltb k (suc t) (omega arith) ∙ sym (lt-ltb k t l)
    go (inr l) = le-ltb k (suc t) (omega arith) ∙ sym (le-ltb k t (omega arith))

ltb_none : (t : ℕ) → ltb t t ≡ false
ltb_none t = le-ltb t t (omega arith)

ltb_last : (t : ℕ) → ltb t (suc t) ≡ true
ltb_last t = lt-ltb t (suc t) (omega arith)

module _ (A : Type 0) (put : Put) (look : List ℕ → ℕ → A) (shows : List ℕ → A) (Room : List ℕ → Type 0) (M : ℕ)
    (at_same : (l : List ℕ) (b : ℕ) (v : List ℕ) → Room l → b < M → Digest v → look (put l b v) b ≡ shows v)
    (at_other : (l : List ℕ) (b b' : ℕ) (v : List ℕ) → b' ≢ b → look (put l b v) b' ≡ look l b')
    (keeps : (l : List ℕ) (b : ℕ) (v : List ℕ) → Room l → Room (put l b v)) where
  -- ---- the path of chunk c
  module _ (own : ℕ → List ℕ) (got : ℕ → ℕ → List ℕ) (c : ℕ) (own-digest : (h : ℕ) → Digest (own h)) (got-digest : (h a : ℕ) → Digest (got h a)) where
    pub room_path : (t : ℕ) (l : List ℕ) → Room l → Room (put_path put own got c t l)
    unfolding put_path
    room_path zero l R = R
    room_path (suc t) l R = keeps _ _ _ (keeps _ _ _ (room_path t l R))

    pub path-shows : (t : ℕ) (l : List ℕ) → Room l
        → ((h : ℕ) → h < t → (bin h (above h c) < M) × (bin h (sibling_from h c) < M))
        → (k a : ℕ) → above k a ≡ a
        → look (put_path put own got c t l) (bin k a) ≡ pick (on_path c t k a) (pick (eqb a (above k c)) (shows (own k)) (shows (got k a))) (look l (bin k a))
    unfolding put_path
    path-shows zero l R i k a e = rw (le-ltb k zero (omega arith))
    path-shows (suc t) l R i k a e = go (ℕ_discrete k t) (path-shows t l R (λ h u. i h (omega arith)) k a e)
      where
        P : List ℕ
        P = put_path put own got c t l

        b1 : ℕ
        b1 = bin t (above t c)

        b2 : ℕ
        b2 = bin t (sibling_from t c)

        Goal : ℕ → Type 0
        Goal j = look (put (put P b1 (own t)) b2 (got t (sibling_from t c))) (bin j a)
            ≡ pick (on_path c (suc t) j a) (pick (eqb a (above j c)) (shows (own j)) (shows (got j a))) (look l (bin j a))

        skip : (b : ℕ) → b ≢ b1 → b ≢ b2 → look (put (put P b1 (own t)) b2 (got t (sibling_from t c))) b ≡ look P b
        skip b x y = at_other (put P b1 (own t)) b2 b (got t (sibling_from t c)) y ∙ at_other P b1 b (own t) x

        level : above t a ≡ a → look P (bin t a) ≡ look l (bin t a) → Goal t
        level al ih = cases (ℕ_discrete (above (suc t) a) (above (suc t) c)) (ℕ_discrete a (above t c))
          where
            cases : Dec (above (suc t) a ≡ above (suc t) c) → Dec (a ≡ above t c) → Goal t
            cases (no p) q =
                rw (ltb_last t, ne_eqb (above (suc t) a) (above (suc t) c) p)
                (skip (bin t a)
                (λ z. p (ap (above (suc t)) (bin_eq t a t (above t c) al (above_aligned t c) z).1 ∙ parent_above t c))
                (λ z. p (ap (above (suc t)) (bin_eq t a t (sibling_from t c) al (beside_aligned t c) z).1 ∙ beside-parent t c))
                ∙ ih)
            cases (yes p) (yes q) =
                rw (ltb_last t, eq-eqb (above (suc t) a) (above (suc t) c) p, eq-eqb a (above t c) q)
                (ap (look (put (put P b1 (own t)) b2 (got t (sibling_from t c)))) (ap (bin t) q)
                ∙ at_other (put P b1 (own t)) b2 b1 (got t (sibling_from t c)) (λ z. own_not_beside t c (bin_eq t (above t c) t (sibling_from t c) (above_aligned t c) (beside_aligned t c) z).1)
                ∙ at_same P b1 (own t) (room_path t l R) (i t (omega arith)).0 (own-digest t))
            cases (yes p) (no q) =
                let o = beside_kid t c a al p q in
                rw (ltb_last t, eq-eqb (above (suc t) a) (above (suc t) c) p, ne_eqb a (above t c) q)
                (ap (look (put (put P b1 (own t)) b2 (got t (sibling_from t c)))) (ap (bin t) o)
                ∙ at_same (put P b1 (own t)) b2 (got t (sibling_from t c)) (keeps P b1 (own t) (room_path t l R)) (i t (omega arith)).1 (got-digest t (sibling_from t c))
                ∙ ap (λ (x : ℕ). shows (got t x)) (sym o))

        go : Dec (k ≡ t) → look P (bin k a) ≡ pick (on_path c t k a) (pick (eqb a (above k c)) (shows (own k)) (shows (got k a))) (look l (bin k a)) → Goal k
        go (no d) ih =
            rw (ltb_more k t d)
            (skip (bin k a) (λ z. d (bin_eq k a t (above t c) e (above_aligned t c) z).0) (λ z. d (bin_eq k a t (sibling_from t c) e (beside_aligned t c) z).0) ∙ ih)
        go (yes q) ih = subst Goal (sym q) (level (rw q at e) (rw (q, ltb_none t) at ih))

  -- ---- the peaks of N
  module _ (got : ℕ → ℕ → List ℕ) (N : ℕ) (got-digest : (h a : ℕ) → Digest (got h a)) where
    room-if : (t : Bool) (l : List ℕ) (b : ℕ) (v : List ℕ) → Room l → Room (put_if put t l b v)
    room-if true l b v R = keeps l b v R
    room-if false l b v R = R

    pub room-peaks : (k : ℕ) (l : List ℕ) → Room l → Room (put_peaks put got N k l)
    unfolding put_peaks
    room-peaks zero l R = R
    room-peaks (suc k) l R = room-if (eqb (N / 2 ^ k % 2) 1) _ _ _ (room-peaks k l R)

    below-shows : (k : ℕ) (l : List ℕ) → Room l → ((h : ℕ) → N / 2 ^ h % 2 ≡ 1 → bin h (above (suc h) N) < M)
        → (h a : ℕ) → above h a ≡ a
        → look (put_peaks put got N k l) (bin h a) ≡ pick (pick (ltb h k) (is_peak N h a) false) (shows (got h a)) (look l (bin h a))
    unfolding put_peaks
    below-shows zero l R i h a e = rw (le-ltb h zero (omega arith))
    below-shows (suc k) l R i h a e = go (ℕ_discrete h k) (below-shows k l R i h a e)
      where
        P : List ℕ
        P = put_peaks put got N k l

        p : ℕ
        p = above (suc k) N

        Goal : Bool → ℕ → Type 0
        Goal t j = look (put_if put t P (bin k p) (got k p)) (bin j a) ≡ pick (pick (ltb j (suc k)) (is_peak N j a) false) (shows (got j a)) (look l (bin j a))

        skip : (t : Bool) (b : ℕ) → b ≢ bin k p → look (put_if put t P (bin k p) (got k p)) b ≡ look P b
        skip true b d = at_other P (bin k p) b (got k p) d
        skip false b d = refl

        p-aligned : above k p ≡ p
        p-aligned = aligned_left k p (above_aligned (suc k) N)

        peak-not : above k a ≡ a → (N / 2 ^ k % 2 ≡ 1 → a ≡ p → ⊥) → is_peak N k a ≡ false
        peak-not al d = cases (either (is_peak N k a))
          where
            cases : (is_peak N k a ≡ true) ⊎ (is_peak N k a ≡ false) → is_peak N k a ≡ false
            cases (inl y) = absurd (d (peak-bit N k a al y).0 (peak-bit N k a al y).1)
            cases (inr y) = y

        level : above k a ≡ a → look P (bin k a) ≡ look l (bin k a) → (t : Bool) → eqb (N / 2 ^ k % 2) 1 ≡ t → Dec (a ≡ p) → Goal t k
        level al ih false q z =
            rw (ltb_last k, peak-not al (λ x y. eqb-false (N / 2 ^ k % 2) 1 q x)) ih
        level al ih true q (no z) =
            rw (ltb_last k, peak-not al (λ x y. z y)) (skip true (bin k a) (λ y. z (bin_eq k a k p al p-aligned y).1) ∙ ih)
        level al ih true q (yes z) =
            let b = eqb-true (N / 2 ^ k % 2) 1 q in
            rw (ltb_last k, ap (is_peak N k) z ∙ (bit-peak N k b).1)
            (ap (look (put P (bin k p) (got k p))) (ap (bin k) z) ∙ at_same P (bin k p) (got k p) (room-peaks k l R) (i k b) (got-digest k p) ∙ ap (λ (x : ℕ). shows (got k x)) (sym z))

        go : Dec (h ≡ k) → look P (bin h a) ≡ pick (pick (ltb h k) (is_peak N h a) false) (shows (got h a)) (look l (bin h a)) → Goal (eqb (N / 2 ^ k % 2) 1) h
        go (no d) ih = rw (ltb_more h k d) (skip (eqb (N / 2 ^ k % 2) 1) (bin h a) (λ y. d (bin_eq h a k p e p-aligned y).0) ∙ ih)
        go (yes q) ih =
            subst (Goal (eqb (N / 2 ^ k % 2) 1)) (sym q)
            (level (rw q at e) (rw (q, ltb_none k) at ih) (eqb (N / 2 ^ k % 2) 1) refl (ℕ_discrete a p))

    pub peaks-show : (l : List ℕ) → Room l → ((h : ℕ) → N / 2 ^ h % 2 ≡ 1 → bin h (above (suc h) N) < M)
        → (h a : ℕ) → above h a ≡ a
        → look (put_peaks put got N (suc (levels N)) l) (bin h a) ≡ pick (is_peak N h a) (shows (got h a)) (look l (bin h a))
    peaks-show l R i h a e = below-shows (suc (levels N)) l R i h a e ∙ ap (λ (x : Bool). pick x (shows (got h a)) (look l (bin h a))) (go (is_peak N h a) refl (ltb h (suc (levels N))) refl)
      where
        go : (x : Bool) → is_peak N h a ≡ x → (y : Bool) → ltb h (suc (levels N)) ≡ y → pick y x false ≡ x
        go true q true r = refl
        go true q false r =
            let g = both_true (leb (a + 2 ^ h) N) (ltb N (above (suc h) a + 2 ^ suc h)) q in
            let w = leb-true (a + 2 ^ h) N g.0 in
            absurd (true≢false (sym (lt-ltb h (suc (levels N)) (omega (arith, high_bound N h (omega arith)))) ∙ r))
        go false q true r = refl
        go false q false r = refl
