-- The verdict in the rooms' words: what the code computes is the theory's verdict on the rooms. Assumes nothing.
use mathlib.Core.Path.{◌≡◌, refl, sym, ap, ap₂, ◌∙◌}
use mathlib.Core.Bool.{Bool, true, false}
use mathlib.Core.List.{List, [], map, ◌++◌}
use mathlib.Core.Option.{Option, none, some}
use Prim.Native.Nat.{ℕ, suc, ◌+◌, ◌^◌, ◌≤◌, ◌<◌}
use native.Mathlib.Omega.{arith}
use Rattle.hash.proofs.Promise.{same, sha256}
use Rattle.base.specs.Pick.{pick}
use Rattle.base.specs.Out.{Named}
use Rattle.std.specs.Prelude.{Some, None}
use Rattle.tree.specs.Bin.{bin}
use Rattle.tree.specs.Node.{Node, num, above}
use Rattle.tree.specs.Pack.{levels, least_from, root_node}
use Rattle.tree.specs.Peaks.{peaks, peak_height, siblings, sort}
use Rattle.tree.specs.Tree.{given, combined, climb}
use Rattle.tree.specs.Verdicts.{every, is_missing, first_of, peaks_trusted, reached, needed, first_missing, unless_missing, rooted, met, verdict}
use Rattle.tree.specs.Verdicts.{Verdict}
use Rattle.std.specs.Prelude.{Ok, Err}
use Rattle.tree.specs.declared.verdict.Fault.TheVariants.{Missing, WrongPeaks, WrongClimb}
use Rattle.verdict.specs.Room.{filler}
use Rattle.verdict.specs.Integrity.{Integrity, came_from}
use Rattle.verdict.specs.Rooms.{rooms_of, state_of}
use Rattle.verdict.specs.Steps.{trusted_in, got_by, room_counts, room_counted, named_node, room_reached, kept, Judged, judged_of, scratch_by}
use Rattle.verdict.specs.Steps.{weighing, weighed, judge_spec, room_verdict}
use Rattle.tree.proofs.NodeLaws.{whole_below, above_aligned}
use Rattle.tree.proofs.LeastLaws.{least_finds}
use Rattle.tree.proofs.PackLaws.{high_bound}
use Rattle.tree.proofs.PeakLaws.{peak_of}
use Rattle.tree.proofs.PeakTests.{all-peaks, peak-test}
use Rattle.tree.proofs.TakeLaws.{fits-means, reached_inside}

-- the height reached lies within the tree, and the node complete within the pack
module _ (N : ℕ) (trusted : List ℕ) (c : ℕ) (l : c < N) where
  peak-counts : (b : Bool) → b ≡ every (trusted_in trusted) (peaks N) → room_counts b N trusted (peak_height N c) (above (peak_height N c) c) ≡ true
  peak-counts true e = all-peaks (trusted_in trusted) N (sym e) (peak_height N c) (above (peak_height N c) c) (above_aligned (peak_height N c) c) (peak-test N c l)
  peak-counts false e = rw (peak-test N c l)

  pub reach-in : (b : Bool) → b ≡ every (trusted_in trusted) (peaks N) → (t : ℕ) → t ≡ least_from (λ h. room_counts b N trusted h (above h c)) (suc (levels N)) 0
      → (t ≤ levels N) × (above t c + 2 ^ t ≤ N) × (room_counts b N trusted t (above t c) ≡ true)
  reach-in b e t q =
      let k = peak_of N c l in
      let p = peak_height N c in
      let w : above p c + 2 ^ p ≤ N = k.whole in
      let i = high_bound N p (omega arith) in
      let R = rw (← q) at (least_finds (λ h. room_counts b N trusted h (above h c)) p (peak-counts b e) (suc (levels N)) 0 (omega arith) (omega arith)) in
      (omega (arith, R.within), whole_below N c t p R.within.1 w, R.passes)

module _ (L : ℕ) (bytes map : List ℕ) (N : ℕ) (r hashes trusted : List ℕ) (c : ℕ) (d : List ℕ) (o : Integrity) (b : Bool) (t : ℕ)
    (bo : b ≡ every (trusted_in trusted) (peaks N)) (tr : t ≡ least_from (λ h. room_counts b N trusted h (above h c)) (suc (levels N)) 0) where
  is-peaks_trusted : b ≡ peaks_trusted N (state_of L (rooms_of bytes map hashes trusted))
  unfolding peaks_trusted
  is-peaks_trusted = bo

  is-reached : t ≡ reached N (state_of L (rooms_of bytes map hashes trusted)) c
  unfolding reached
  is-reached = tr ∙ ap (λ (x : Bool). least_from (λ h. room_counts x N trusted h (above h c)) (suc (levels N)) 0) is-peaks_trusted

  -- the verdict, once it is known whether the peaks are trusted, and which node is reached
  is-verdict : unless_missing (first_of (is_missing (came_from o)) (sort (pick b [] (peaks N) ++ siblings c t))) (weighing N r hashes b c t d o)
      ≡ verdict sha256 filler N r (state_of L (rooms_of bytes map hashes trusted)) c d (came_from o)
  unfolding verdict first_missing needed rooted met combined
  is-verdict = rw (is-peaks_trusted, is-reached)

-- the verdict looks at the hashes and the trusted bits alone
pub verdict_sees : (N : ℕ) (r hashes trusted : List ℕ) (c : ℕ) (d : List ℕ) (o : Integrity) (L : ℕ) (bytes map : List ℕ)
    → room_verdict N r hashes trusted c d o ≡ verdict sha256 filler N r (state_of L (rooms_of bytes map hashes trusted)) c d (came_from o)
unfolding room_verdict
verdict_sees N r hashes trusted c d o L bytes map =
    let b = every (trusted_in trusted) (peaks N) in
    let t = least_from (λ h. room_counts b N trusted h (above h c)) (suc (levels N)) 0 in
    sym (is-verdict 0 [] [] N r hashes trusted c d o b t refl refl) ∙ is-verdict L bytes map N r hashes trusted c d o b t refl refl

-- a chunk that fits hangs below the node reached, a node of the tree
pub fits_reached : (N : ℕ) (r hashes trusted : List ℕ) (c : ℕ) (d : List ℕ) (o : Integrity) (t : ℕ) → room_verdict N r hashes trusted c d o ≡ Ok t → t ≡ room_reached N trusted c
unfolding room_reached reached peaks_trusted
fits_reached N r hashes trusted c d o t e =
    (fits-means sha256 filler N r (state_of 0 (rooms_of [] [] hashes trusted)) c d (came_from o) t (sym (verdict_sees N r hashes trusted c d o 0 [] []) ∙ e)).reached_is

pub fits-within : (N : ℕ) (r hashes trusted : List ℕ) (c : ℕ) (d : List ℕ) (o : Integrity) (t : ℕ) → c < N → room_verdict N r hashes trusted c d o ≡ Ok t → t ≤ levels N
unfolding room_reached reached peaks_trusted
fits-within N r hashes trusted c d o t l e =
    (reach-in N trusted c l (every (trusted_in trusted) (peaks N)) refl t (fits_reached N r hashes trusted c d o t e)).0

-- ---- test by test, as the code has them

-- a node is named, or none
named_some : (f : Option Node) (v : Verdict) {b : ℕ} → Some b ≡ named_node f → Err (Missing b) ≡ unless_missing f v
named_some none v e = absurd (let w : ◌≡◌ {A = ℕ} 0 1 = cc in omega arith)
named_some (some n) v {b} e = let q : b ≡ num n = cc in ap (λ (x : ℕ). Err (Missing x)) q

named_none : (f : Option Node) (v : Verdict) → None ≡ named_node f → v ≡ unless_missing f v
named_none none v e = refl
named_none (some n) v e = absurd (let w : ◌≡◌ {A = ℕ} 0 1 = cc in omega arith)

-- the verdict, and the scratch that it leaves
judge_by : (s : List ℕ) (N : ℕ) (r hashes trusted : List ℕ) (c : ℕ) (d : List ℕ) (o : Integrity) (v : Verdict) {s' : List ℕ} → v ≡ room_verdict N r hashes trusted c d o
    → s' ≡ scratch_by v s (kept s (got_by o) (sha256 d) c (room_reached N trusted c)) → judged_of v s' ≡ judge_spec s N r hashes trusted c d o
unfolding judge_spec
judge_by s N r hashes trusted c d o v e f =
    ap₂ judged_of e (f ∙ ap (λ (x : Verdict). scratch_by x s (kept s (got_by o) (sha256 d) c (room_reached N trusted c))) e)

module _ (s : List ℕ) (N : ℕ) (r hashes trusted : List ℕ) (c : ℕ) (d : List ℕ) (o : Integrity) (b : Bool) (t : ℕ)
    (bo : b ≡ every (trusted_in trusted) (peaks N)) (tr : t ≡ least_from (λ h. room_counts b N trusted h (above h c)) (suc (levels N)) 0) where
  room-reached : t ≡ room_reached N trusted c
  unfolding room_reached
  room-reached = is-reached 0 [] [] N r [] trusted c d o b t bo tr

  -- the node reached lies within the pack
  pub judge-inside : c < N → above t c + 2 ^ t ≤ N
  unfolding room_reached
  judge-inside l = rw room-reached (reached_inside N (state_of 0 (rooms_of [] [] [] trusted)) c l)

  module _ {x : Named} (xe : x ≡ named_node (first_of (is_missing (came_from o)) (sort (pick b [] (peaks N) ++ siblings c t)))) where
    abbrev first : Option Node
    first = first_of (is_missing (came_from o)) (sort (pick b [] (peaks N) ++ siblings c t))

    by-verdict : {v : Verdict} → v ≡ unless_missing first (weighing N r hashes b c t d o) → v ≡ room_verdict N r hashes trusted c d o
    unfolding room_verdict
    by-verdict e = e ∙ is-verdict 0 [] [] N r hashes trusted c d o b t bo tr

    pub judge-missing : {n : ℕ} → x ≡ Some n → judged_of (Err (Missing n)) s ≡ judge_spec s N r hashes trusted c d o
    judge-missing {n} e =
        judge_by s N r hashes trusted c d o (Err (Missing n)) (by-verdict (named_some first (weighing N r hashes b c t d o) (sym e ∙ xe))) refl

    pub judge-weighed : x ≡ None → {v : Verdict} {s' : List ℕ} → judged_of v s' ≡ weighed s N r hashes b c t d o
        → judged_of v s' ≡ judge_spec s N r hashes trusted c d o
    unfolding weighed
    judge-weighed e {v} q =
        let p = ap (λ (j : Judged). j.told) q in
        judge_by s N r hashes trusted c d o v (by-verdict (p ∙ named_none first (weighing N r hashes b c t d o) (sym e ∙ xe)))
        (ap (λ (j : Judged). j.scratch) q
        ∙ ap₂ (λ (y : Verdict) (h : ℕ). scratch_by y s (kept s (got_by o) (sha256 d) c h)) (sym p) room-reached)

-- once no hash is missing
module _ (s : List ℕ) (N : ℕ) (r hashes : List ℕ) (b : Bool) (c t : ℕ) (d : List ℕ) (o : Integrity) {v : Bool}
    (vo : v ≡ pick b true (same (given sha256 filler N (got_by o) (levels N) 0) r)) where
  pub weigh-peaks : v ≡ false → {n : ℕ} → n ≡ root_node N → judged_of (Err (WrongPeaks n)) s ≡ weighed s N r hashes b c t d o
  unfolding weighed
  weigh-peaks e q = rw (q, sym vo ∙ e)

  module _ (vt : v ≡ true) {x : List ℕ} (xe : x ≡ sha256 d) {w : Bool} {s' : List ℕ}
      (wo : (w ≡ same (climb sha256 (got_by o) x c t) (room_counted b N hashes o t (above t c))) × (s' ≡ kept s (got_by o) x c t)) where
    meets : same (climb sha256 (got_by o) (sha256 d) c t) (room_counted b N hashes o t (above t c)) ≡ w
    meets = sym (wo.0 ∙ ap (λ (y : List ℕ). same (climb sha256 (got_by o) y c t) (room_counted b N hashes o t (above t c))) xe)

    keeps : s' ≡ kept s (got_by o) (sha256 d) c t
    keeps = wo.1 ∙ ap (λ (y : List ℕ). kept s (got_by o) y c t) xe

    pub weigh-climb : w ≡ false → {n : ℕ} → n ≡ bin t (above t c) → judged_of (Err (WrongClimb n)) s' ≡ weighed s N r hashes b c t d o
    unfolding weighed
    weigh-climb e q = rw (q, sym vo ∙ vt, meets ∙ e, keeps)

    pub weigh-fits : w ≡ true → judged_of (Ok t) s' ≡ weighed s N r hashes b c t d o
    unfolding weighed
    weigh-fits e = rw (sym vo ∙ vt, meets ∙ e, keeps)
