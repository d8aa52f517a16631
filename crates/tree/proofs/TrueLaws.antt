-- A true chunk that comes with true hashes is taken: no store that holds true hashes refuses it. Assumes nothing.
use Rattle.std.proofs.Common.{◌≡◌, ℕ, zero, suc, ◌+◌, ◌/◌, ◌%◌, ◌^◌, ◌<◌, ◌≤◌, Bool, true, false, eqb, ltb, leb, ◌≢◌, ◌⊎◌, List, [], ◌++◌, sym, refl, ap, ◌∙◌, ap₂, inl, inr, arith, ltb-true, eq-eqb, ne_eqb, eqb-true, leb-true}
use mathlib.Core.Option.{Option, none, some, get_or}
use native.Mathlib.Decide.{ℕ_discrete}
use Rattle.base.specs.Same.{same}
use Rattle.base.proofs.SameLaws.{same_refl}
use Rattle.base.specs.Pick.{pick}
use Rattle.tree.specs.Node.{Node, sibling_from, above}
use Rattle.tree.specs.Pack.{levels}
use Rattle.tree.specs.Peaks.{peaks, peak_height, siblings, sent}
use Rattle.tree.specs.Tree.{tree, root, combined, joined, climb}
use Rattle.tree.specs.State.{State, is_peak}
use Rattle.tree.proofs.Sound.{on_path, adopted, hung, counted}
use Rattle.tree.specs.Verdicts.{Came, is_there, got, every, Each, peaks_trusted, reached, needed, first_missing, rooted, met, verdict}
use Rattle.tree.specs.Steps.{sibling_at}
use Rattle.std.specs.Prelude.{Ok}
use Rattle.tree.proofs.NodeLaws.{above-left, above-right, beside-left, beside-right, whole_below, above_aligned, child_cases}
use Rattle.tree.proofs.LeastLaws.{Least, least_finds}
use Rattle.tree.proofs.PackLaws.{high_bound}
use Rattle.tree.proofs.TreeLaws.{combined-root, climb-true}
use Rattle.base.proofs.PickLaws.{both_true}
use Rattle.tree.proofs.EachLaws.{each_map, each_append, each-split, each-sort, siblings-at, siblings-each}
use Rattle.tree.proofs.PeakTests.{each_peak, all-peaks, peak-test}
use Rattle.tree.proofs.SoundLaws.{combined-peaks}
use Rattle.tree.proofs.TakeLaws.{reached_counted, counted-hash}
use Rattle.tree.proofs.NamedLaws.{all-came}

-- the climb looks at the siblings on its way alone
pub climb-agree : (H : List ℕ → List ℕ) (x y : ℕ → ℕ → List ℕ) (v : List ℕ) (c t : ℕ)
    → ((h : ℕ) → h < t → x h (sibling_from h c) ≡ y h (sibling_from h c))
    → climb H x v c t ≡ climb H y v c t
unfolding climb
climb-agree H x y v c zero e = refl
climb-agree H x y v c (suc t) e =
    ap₂ (λ (p q : List ℕ). joined H c t p q) (climb-agree H x y v c t (λ h l. e h (omega arith))) (e t (omega arith))

-- a node beside the way is the sibling of one on it
beside_kid : (h c a : ℕ) → above h a ≡ a → above (suc h) a ≡ above (suc h) c → a ≢ above h c → a ≡ sibling_from h c
beside_kid h c a e p d = go (c / 2 ^ h % 2) refl (child_cases h a e)
  where
    go : (x : ℕ) → c / 2 ^ h % 2 ≡ x → (a ≡ above (suc h) a) ⊎ (a ≡ above (suc h) a + 2 ^ h) → a ≡ sibling_from h c
    go zero f (inl q) = absurd (d (omega (arith, q, p, above-left h c f)))
    go zero f (inr q) = omega (arith, q, p, above-left h c f, beside-left h c f)
    go (suc x) f (inl q) = let g : c / 2 ^ h % 2 ≡ 1 = omega arith in omega (arith, q, p, above-right h c g, beside-right h c g)
    go (suc x) f (inr q) = let g : c / 2 ^ h % 2 ≡ 1 = omega arith in absurd (d (omega (arith, q, p, above-right h c g)))

-- ---- true hashes

module _ (H : List ℕ → List ℕ) (Z : List ℕ) (N : ℕ) (chunk : ℕ → List ℕ) where
  -- every trusted node within 0..N-1 holds its true hash
  abbrev pub HoldsTrue : State → Type 0
  HoldsTrue s = (h a : ℕ) → above h a ≡ a → a + 2 ^ h ≤ N → s.trust h a ≡ true → s.hash h a ≡ tree H Z N chunk h a

  -- a node's true hash came
  abbrev pub TrueAt : Came → Node → Type 0
  TrueAt m n = m n.high n.from ≡ some (tree H Z N chunk n.high n.from)

  module _ (s : State) (T : HoldsTrue s) (c : ℕ) (l : c < N) (m : Came) (B : Each (TrueAt m) (sent N c)) where
    abbrev r : List ℕ
    r = root H Z N chunk

    abbrev d : List ℕ
    d = chunk c

    parts : Each (TrueAt m) (peaks N) × Each (TrueAt m) (siblings c (peak_height N c))
    unfolding sent
    parts = let ss = siblings c (peak_height N c) in each-split (TrueAt m) (peaks N) ss (each-sort (TrueAt m) (peaks N ++ ss) B)

    peak-in : (h b : ℕ) → is_peak N h b ≡ true → b + 2 ^ h ≤ N
    peak-in h b p = leb-true (b + 2 ^ h) N (both_true (leb (b + 2 ^ h) N) (ltb N (above (suc h) b + 2 ^ suc h)) p).0

    peak-true : (h a : ℕ) → above h a ≡ a → is_peak N h a ≡ true → got Z m h a ≡ tree H Z N chunk h a
    peak-true h a e p = ap (λ (o : Option (List ℕ)). get_or o Z) (each_peak (TrueAt m) N parts.0 h a e p)

    sibling-true : (h : ℕ) → h < peak_height N c → TrueAt m (sibling_at c h)
    sibling-true = siblings-at (TrueAt m) c (peak_height N c) parts.1

    roots : rooted H Z N r s c d m ≡ true
    unfolding rooted
    roots = go (peaks_trusted N s)
      where
        gives : combined H Z N (got Z m) ≡ r
        gives = combined-peaks H Z N (got Z m) (tree H Z N chunk) peak-true ∙ combined-root H Z N chunk

        go : (b : Bool) → pick b true (same (combined H Z N (got Z m)) r) ≡ true
        go true = refl
        go false = ap (λ (x : List ℕ). same x r) gives ∙ same_refl r

    -- with the peaks that came, every trusted node still holds its true hash, and the chunk's peak is trusted
    counted-true : HoldsTrue (counted H Z N r s c d m)
    unfolding counted
    counted-true = go (peaks_trusted N s)
      where
        adopted-true : HoldsTrue (adopted N (got Z m) s)
        adopted-true h a e i f = at (is_peak N h a) refl f
          where
            at : (b : Bool) → is_peak N h a ≡ b → pick b true (s.trust h a) ≡ true → pick b (got Z m h a) (s.hash h a) ≡ tree H Z N chunk h a
            at true p f = peak-true h a e p
            at false p f = T h a e i f

        go : (b : Bool) → HoldsTrue (pick b s (adopted N (got Z m) s))
        go true = T
        go false = adopted-true

    peak-trusted : (counted H Z N r s c d m).trust (peak_height N c) (above (peak_height N c) c) ≡ true
    unfolding counted peaks_trusted
    peak-trusted = go (every (λ n. s.trust n.high n.from) (peaks N)) refl
      where
        go : (b : Bool) → every (λ n. s.trust n.high n.from) (peaks N) ≡ b
            → (pick b s (adopted N (got Z m) s)).trust (peak_height N c) (above (peak_height N c) c) ≡ true
        go true e = all-peaks (λ n. s.trust n.high n.from) N e (peak_height N c) (above (peak_height N c) c) (above_aligned (peak_height N c) c) (peak-test N c l)
        go false e = rw (peak-test N c l)

    reach : Least (λ h. (counted H Z N r s c d m).trust h (above h c)) 0 (peak_height N c) (reached N s c)
    reach =
        let p = peak_height N c in
        rw (reached_counted H Z N r s c d m)
        (least_finds (λ h. (counted H Z N r s c d m).trust h (above h c)) p peak-trusted (suc (levels N)) 0 (omega arith)
        (omega (arith, high_bound N p (omega (arith, peak-in p (above p c) (peak-test N c l))))))

    completes : first_missing N s c m ≡ none
    unfolding needed
    completes =
        all-came N s c m
        (each_append There (pick (peaks_trusted N s) [] (peaks N)) (siblings c (reached N s c)) (go (peaks_trusted N s))
        (siblings-each There c (reached N s c) (λ h u. ap is_there (sibling-true h (omega (arith, reach.within))))))
      where
        There : Node → Type 0
        There n = is_there (m n.high n.from) ≡ true

        go : (b : Bool) → Each There (pick b [] (peaks N))
        go true = tt
        go false = each_map (TrueAt m) There (λ n. ap is_there) (peaks N) parts.0

    climbs : (t : ℕ) → t ≤ reached N s c → climb H (got Z m) (H d) c t ≡ tree H Z N chunk t (above t c)
    climbs t u =
        climb-agree H (got Z m) (tree H Z N chunk) (H d) c t (λ h i. ap (λ (o : Option (List ℕ)). get_or o Z) (sibling-true h (omega (arith, reach.within))))
        ∙ climb-true H Z N chunk c t l

    meets : met H Z N r s c d m ≡ true
    unfolding met
    meets =
        let t = reached N s c in
        let p = peak_height N c in
        let inside : above t c + 2 ^ t ≤ N = whole_below N c t p reach.within.1 (peak-in p (above p c) (peak-test N c l)) in
        let holds : (counted H Z N r s c d m).hash t (above t c) ≡ tree H Z N chunk t (above t c) = counted-true t (above t c) (above_aligned t c) inside reach.passes in
        ap₂ same (climbs t (omega arith)) (counted-hash H Z N r s c d m t (above t c) ∙ holds) ∙ same_refl (tree H Z N chunk t (above t c))

    -- The verdict on a true chunk with the true hashes that go out with it: it fits.
    pub true-fits : verdict H Z N r s c d m ≡ Ok (reached N s c)
    unfolding verdict
    true-fits = rw (completes, roots, meets)

    -- What hanging it writes is true, so the store still holds true hashes.
    pub hung-true : HoldsTrue (hung H c (reached N s c) d (got Z m) (counted H Z N r s c d m))
    hung-true h a e i f = go (on_path c (reached N s c) h a) refl f
      where
        at : h < reached N s c → above (suc h) a ≡ above (suc h) c → Dec (a ≡ above h c)
            → pick (eqb a (above h c)) (climb H (got Z m) (H d) c h) (got Z m h a) ≡ tree H Z N chunk h a
        at u v (yes z) = rw (eq-eqb a (above h c) z) (climbs h (omega arith) ∙ ap (tree H Z N chunk h) (sym z))
        at u v (no z) = rw (ne_eqb a (above h c) z) (rw (beside_kid h c a e v z) (ap (λ (o : Option (List ℕ)). get_or o Z) (sibling-true h (omega (arith, reach.within)))))

        go : (b : Bool) → on_path c (reached N s c) h a ≡ b → pick b true ((counted H Z N r s c d m).trust h a) ≡ true
            → pick b (pick (eqb a (above h c)) (climb H (got Z m) (H d) c h) (got Z m h a)) ((counted H Z N r s c d m).hash h a) ≡ tree H Z N chunk h a
        go true p g =
            let q = both_true (ltb h (reached N s c)) (eqb (above (suc h) a) (above (suc h) c)) p in
            at (ltb-true h (reached N s c) q.0) (eqb-true (above (suc h) a) (above (suc h) c) q.1) (ℕ_discrete a (above h c))
        go false p g = counted-true h a e i g
