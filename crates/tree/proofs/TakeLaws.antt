-- Taking a chunk, whatever comes, keeps a store sound. Assumes nothing.
use Rattle.std.proofs.Common.{◌≡◌, ℕ, suc, ◌+◌, ◌^◌, ◌<◌, ◌≤◌, Bool, true, false, List, refl, ◌∙◌, arith}
use mathlib.Core.Option.{Option, none, some}
use Rattle.base.specs.Same.{same}
use Rattle.base.proofs.SameLaws.{same_is}
use Rattle.base.specs.Pick.{pick}
use Rattle.tree.specs.Bin.{bin}
use Rattle.tree.specs.Node.{Node, num, above}
use Rattle.tree.specs.Pack.{least_from, levels, root_node}
use Rattle.tree.specs.Peaks.{peaks, peak_height}
use Rattle.tree.specs.Tree.{combined, climb}
use Rattle.tree.specs.State.{State, is_peak, AllPeaks}
use Rattle.tree.proofs.Sound.{adopted, hung, Sound, counted, after_by, after}
use Rattle.tree.specs.Verdicts.{Came, got, every, peaks_trusted, counts, counted_hash, reached}
use Rattle.tree.specs.Verdicts.{first_missing, unless_missing, rooted, met, verdict}
use Rattle.tree.specs.Verdicts.{Verdict}
use Rattle.std.specs.Prelude.{Ok, Err}
use Rattle.tree.specs.declared.verdict.Fault.TheVariants.{Missing, WrongPeaks, WrongClimb}
use Rattle.tree.proofs.NodeLaws.{whole_below, above_aligned}
use Rattle.tree.proofs.LeastLaws.{Least, least_finds}
use Rattle.tree.proofs.PackLaws.{high_bound}
use Rattle.tree.proofs.PeakLaws.{peaks_bits, peak_of}
use Rattle.tree.proofs.PeakTests.{bit-peak, some_bits, all-peaks, peak-test}
use Rattle.tree.proofs.HungLaws.{hung-sound, adopted-sound}

-- ---- hanging a chunk below the first trusted node, where all peaks are trusted

module _ (H : List ℕ → List ℕ) (Z : List ℕ) (N : ℕ) (r : List ℕ) (s : State) (S : Sound H Z N r s) (ps : AllPeaks N s) (c : ℕ) (l : c < N) where
  reach : Least (λ h. s.trust h (above h c)) 0 (peak_height N c) (least_from (λ h. s.trust h (above h c)) (suc (levels N)) 0)
  reach =
      let k = peak_of N c l in
      let p = peak_height N c in
      let w : above p c + 2 ^ p ≤ N = k.whole in
      least_finds (λ h. s.trust h (above h c)) p (ps p (above p c) (above_aligned p c) (peak-test N c l)) (suc (levels N)) 0
      (omega arith) (omega (arith, high_bound N p (omega arith)))

  hang-sound : (d : List ℕ) (msg : ℕ → ℕ → List ℕ) (t : ℕ) → t ≡ least_from (λ h. s.trust h (above h c)) (suc (levels N)) 0
      → climb H msg (H d) c t ≡ s.hash t (above t c) → Sound H Z N r (hung H c t d msg s)
  hang-sound d msg t e hit =
      let R = rw (← e) at reach in
      let k = peak_of N c l in
      let p = peak_height N c in
      let w : above p c + 2 ^ p ≤ N = k.whole in
      hung-sound H Z N r s S c t d msg (whole_below N c t p R.within.1 w) R.passes (λ j u. R.before j (omega arith) u) hit

-- ---- taking a chunk

-- the hash that counts is the one held with the peaks that came
pub counted-hash : (H : List ℕ → List ℕ) (Z : List ℕ) (N : ℕ) (r : List ℕ) (s : State) (c : ℕ) (d : List ℕ) (m : Came) (h a : ℕ)
    → counted_hash N s (got Z m) h a ≡ (counted H Z N r s c d m).hash h a
unfolding counted
counted-hash H Z N r s c d m h a = go (peaks_trusted N s)
  where
    go : (b : Bool) → pick b (s.hash h a) (pick (is_peak N h a) (got Z m h a) (s.hash h a)) ≡ (pick b s (adopted N (got Z m) s)).hash h a
    go true = refl
    go false = refl

-- what each verdict says
pub record FitsMeans (H : List ℕ → List ℕ) (Z : List ℕ) (N : ℕ) (r : List ℕ) (s : State) (c : ℕ) (d : List ℕ) (m : Came) (t : ℕ) : Type 0 where
  pub rooted_is : rooted H Z N r s c d m ≡ true
  pub reached_is : t ≡ reached N s c
  pub met_is : climb H (got Z m) (H d) c t ≡ (counted H Z N r s c d m).hash t (above t c)

module _ (H : List ℕ → List ℕ) (Z : List ℕ) (N : ℕ) (r : List ℕ) (s : State) (c : ℕ) (d : List ℕ) (m : Came) where
  abbrev u : ℕ
  u = reached N s c

  abbrev pub Means : Verdict → Type 0
  Means (Ok t) = FitsMeans H Z N r s c d m t
  Means (Err (Missing b)) = (n : Node) × (b ≡ num n) × (first_missing N s c m ≡ some n)
  Means (Err (WrongPeaks b)) = (b ≡ root_node N) × (first_missing N s c m ≡ none) × (rooted H Z N r s c d m ≡ false)
  Means (Err (WrongClimb b)) =
      (b ≡ bin (reached N s c) (above (reached N s c) c)) × (first_missing N s c m ≡ none)
      × (rooted H Z N r s c d m ≡ true) × (met H Z N r s c d m ≡ false)

  fits-so : rooted H Z N r s c d m ≡ true → met H Z N r s c d m ≡ true → FitsMeans H Z N r s c d m u
  unfolding met
  fits-so q i = record {
    rooted_is = q;
    reached_is = refl;
    met_is = same_is (climb H (got Z m) (H d) c u) (counted_hash N s (got Z m) u (above u c)) i ∙ counted-hash H Z N r s c d m u (above u c);
  }

  pub verdict-means : (v : Verdict) → verdict H Z N r s c d m ≡ v → Means v
  unfolding verdict
  verdict-means v =
      go (first_missing N s c m) (rooted H Z N r s c d m) (met H Z N r s c d m) refl refl refl
    where
      go : (o : Option Node) (y z : Bool) → first_missing N s c m ≡ o → rooted H Z N r s c d m ≡ y → met H Z N r s c d m ≡ z
          → unless_missing o (pick y (pick z (Ok u) (Err (WrongClimb (bin u (above u c))))) (Err (WrongPeaks (root_node N)))) ≡ v → Means v
      go (some n) y z p q i e = rw (← e) (n, refl, p)
      go none false z p q i e = rw (← e) (refl, p, q)
      go none true false p q i e = rw (← e) (refl, p, q, i)
      go none true true p q i e = rw (← e) (fits-so q i)

  pub fits-means : (t : ℕ) → verdict H Z N r s c d m ≡ Ok t → FitsMeans H Z N r s c d m t
  fits-means t e = verdict-means (Ok t) e

-- the node reached is the first above the chunk that counts as trusted
pub reached_least : (N : ℕ) (s : State) (c : ℕ) → c < N → Least (λ h. counts N s h (above h c)) 0 (peak_height N c) (reached N s c)
unfolding reached peaks_trusted
reached_least N s c l =
    let k = peak_of N c l in
    let p = peak_height N c in
    let w : above p c + 2 ^ p ≤ N = k.whole in
    least_finds (λ h. counts N s h (above h c)) p (peak-counts (peaks_trusted N s) refl) (suc (levels N)) 0
    (omega arith) (omega (arith, high_bound N p (omega arith)))
  where
    peak-counts : (b : Bool) → peaks_trusted N s ≡ b
        → pick b (s.trust (peak_height N c) (above (peak_height N c) c))
        (pick (is_peak N (peak_height N c) (above (peak_height N c) c)) true (s.trust (peak_height N c) (above (peak_height N c) c))) ≡ true
    peak-counts true e =
        all-peaks (λ n. s.trust n.high n.from) N e (peak_height N c) (above (peak_height N c) c)
        (above_aligned (peak_height N c) c) (peak-test N c l)
    peak-counts false e = rw (peak-test N c l)

-- it lies within 0..N-1
pub reached_inside : (N : ℕ) (s : State) (c : ℕ) → c < N → above (reached N s c) c + 2 ^ reached N s c ≤ N
reached_inside N s c l =
    whole_below N c (reached N s c) (peak_height N c) (reached_least N s c l).within.1 (peak_of N c l).whole

-- the node reached is the first that is trusted with the peaks that came
pub reached_counted : (H : List ℕ → List ℕ) (Z : List ℕ) (N : ℕ) (r : List ℕ) (s : State) (c : ℕ) (d : List ℕ) (m : Came)
    → reached N s c ≡ least_from (λ h. (counted H Z N r s c d m).trust h (above h c)) (suc (levels N)) 0
unfolding reached counted
reached_counted H Z N r s c d m = go (peaks_trusted N s)
  where
    go : (b : Bool)
        → least_from (λ h. pick b (s.trust h (above h c)) (pick (is_peak N h (above h c)) true (s.trust h (above h c)))) (suc (levels N)) 0
        ≡ least_from (λ h. (pick b s (adopted N (got Z m) s)).trust h (above h c)) (suc (levels N)) 0
    go true = refl
    go false = refl

module _ (H : List ℕ → List ℕ) (Z : List ℕ) (N : ℕ) (r : List ℕ) (s : State) (S : Sound H Z N r s) (c : ℕ) (l : c < N) (d : List ℕ) (m : Came) where
  counted-ok : rooted H Z N r s c d m ≡ true
      → Sound H Z N r (counted H Z N r s c d m) × AllPeaks N (counted H Z N r s c d m)
  unfolding counted peaks_trusted rooted
  counted-ok e = go (every (λ n. s.trust n.high n.from) (peaks N)) refl e
    where
      go : (b : Bool) → every (λ n. s.trust n.high n.from) (peaks N) ≡ b → pick b true (same (combined H Z N (got Z m)) r) ≡ true
          → Sound H Z N r (pick b s (adopted N (got Z m) s)) × AllPeaks N (pick b s (adopted N (got Z m) s))
      go true q f = (S, all-peaks (λ n. s.trust n.high n.from) N q)
      go false q f =
          let x = some_bits (λ n. s.trust n.high n.from) N (suc (levels N)) (rw peaks_bits at q) in
          let y = bit-peak N x.0 x.1 in (
            adopted-sound H Z N r s S (got Z m) x.0 (above (suc x.0) N) y.0 y.1 x.2 (same_is (combined H Z N (got Z m)) r f),
            λ h b g p. rw p,
          )

  -- a chunk that fits hangs below the first trusted node
  pub fits-hung : (t : ℕ) → verdict H Z N r s c d m ≡ Ok t → Sound H Z N r (hung H c t d (got Z m) (counted H Z N r s c d m))
  fits-hung t e =
      let f = fits-means H Z N r s c d m t e in
      let k = counted-ok f.rooted_is in
      hang-sound H Z N r (counted H Z N r s c d m) k.0 k.1 c l d (got Z m) t (f.reached_is ∙ reached_counted H Z N r s c d m) f.met_is

  pub after-sound : Sound H Z N r (after H Z N r s c d m)
  unfolding after
  after-sound = go (verdict H Z N r s c d m) refl
    where
      held-or-not : (b : Bool) (t : ℕ) → verdict H Z N r s c d m ≡ Ok t → Sound H Z N r (pick b s (hung H c t d (got Z m) (counted H Z N r s c d m)))
      held-or-not true t e = S
      held-or-not false t e = fits-hung t e

      go : (v : Verdict) → verdict H Z N r s c d m ≡ v → Sound H Z N r (after_by H Z N r s c d m v)
      go (Ok t) e = held-or-not (s.in_map c) t e
      go (Err (Missing b)) e = S
      go (Err (WrongPeaks b)) e = S
      go (Err (WrongClimb b)) e = S
