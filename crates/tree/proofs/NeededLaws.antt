-- Hashes that are not needed are not looked at: two sets of hashes that came and agree on those that are needed get the
-- same verdict. Assumes nothing.
use Rattle.std.proofs.Common.{◌≡◌, ℕ, ◌<◌, Bool, true, false, not, ◌⊎◌, List, [], refl, ap, ap₂, inl, inr}
use mathlib.Core.Option.{Option, get_or}
use Rattle.base.specs.Same.{same}
use Rattle.base.specs.Pick.{pick}
use Rattle.base.proofs.PickLaws.{either}
use Rattle.tree.specs.Node.{Node, sibling_from, above}
use Rattle.tree.specs.Peaks.{peaks, siblings, sort}
use Rattle.tree.specs.Tree.{combined}
use Rattle.tree.specs.State.{State, is_peak}
use Rattle.tree.specs.Verdicts.{Came, is_there, is_missing, got, Each, peaks_trusted, reached, needed}
use Rattle.tree.specs.Verdicts.{first_missing, rooted, met, verdict}
use Rattle.tree.proofs.NodeLaws.{above_aligned}
use Rattle.tree.proofs.EachLaws.{each_map, each-split, sort-each, siblings-at}
use Rattle.tree.proofs.FirstLaws.{first-same}
use Rattle.tree.proofs.PeakTests.{each_peak}
use Rattle.tree.proofs.SoundLaws.{combined-peaks}
use Rattle.tree.proofs.TrueLaws.{climb-agree}

-- for a node the same hash came both times, or none
abbrev pub SameAt : Came → Came → Node → Type 0
SameAt m k n = m n.high n.from ≡ k n.high n.from

module _ (N : ℕ) (s : State) (c : ℕ) (m k : Came) (A : Each (SameAt m k) (needed N s c)) where
  parts : Each (SameAt m k) (pick (peaks_trusted N s) [] (peaks N)) × Each (SameAt m k) (siblings c (reached N s c))
  unfolding needed
  parts = each-split (SameAt m k) (pick (peaks_trusted N s) [] (peaks N)) (siblings c (reached N s c)) A

  pub peaks-agree : peaks_trusted N s ≡ false → (h a : ℕ) → above h a ≡ a → is_peak N h a ≡ true → m h a ≡ k h a
  peaks-agree e = each_peak (SameAt m k) N (rw e at parts.0)

  pub siblings-agree : (h : ℕ) → h < reached N s c → m h (sibling_from h c) ≡ k h (sibling_from h c)
  siblings-agree = siblings-at (SameAt m k) c (reached N s c) parts.1

  missing-same : first_missing N s c m ≡ first_missing N s c k
  unfolding first_missing
  missing-same =
      first-same (is_missing m) (is_missing k) (sort (needed N s c))
      (each_map (SameAt m k) (λ n. is_missing m n ≡ is_missing k n) (λ n. ap (λ (o : Option (List ℕ)). not (is_there o)))
      (sort (needed N s c)) (sort-each (SameAt m k) (needed N s c) A))

  module _ (H : List ℕ → List ℕ) (Z r d : List ℕ) where
    rooted-same : rooted H Z N r s c d m ≡ rooted H Z N r s c d k
    unfolding rooted
    rooted-same = go (either (peaks_trusted N s))
      where
        go : (peaks_trusted N s ≡ true) ⊎ (peaks_trusted N s ≡ false)
            → pick (peaks_trusted N s) true (same (combined H Z N (got Z m)) r) ≡ pick (peaks_trusted N s) true (same (combined H Z N (got Z k)) r)
        go (inl e) = rw e
        go (inr e) =
            ap (λ (x : List ℕ). pick (peaks_trusted N s) true (same x r))
            (combined-peaks H Z N (got Z m) (got Z k) (λ h b f p. ap (λ (o : Option (List ℕ)). get_or o Z) (peaks-agree e h b f p)))

    met-same : met H Z N r s c d m ≡ met H Z N r s c d k
    unfolding met
    met-same =
        ap₂ same
        (climb-agree H (got Z m) (got Z k) (H d) c (reached N s c) (λ h u. ap (λ (o : Option (List ℕ)). get_or o Z) (siblings-agree h u)))
        (at-reached (peaks_trusted N s) refl (reached N s c))
      where
        at-reached : (b : Bool) → peaks_trusted N s ≡ b → (t : ℕ)
            → pick b (s.hash t (above t c)) (pick (is_peak N t (above t c)) (got Z m t (above t c)) (s.hash t (above t c)))
            ≡ pick b (s.hash t (above t c)) (pick (is_peak N t (above t c)) (got Z k t (above t c)) (s.hash t (above t c)))
        at-reached true e t = refl
        at-reached false e t = go (is_peak N t (above t c)) refl
          where
            go : (x : Bool) → is_peak N t (above t c) ≡ x → pick x (got Z m t (above t c)) (s.hash t (above t c)) ≡ pick x (got Z k t (above t c)) (s.hash t (above t c))
            go true p = ap (λ (o : Option (List ℕ)). get_or o Z) (peaks-agree e t (above t c) (above_aligned t c) p)
            go false p = refl

    pub needed_only : verdict H Z N r s c d m ≡ verdict H Z N r s c d k
    unfolding verdict
    needed_only = rw (missing-same, rooted-same, met-same)
