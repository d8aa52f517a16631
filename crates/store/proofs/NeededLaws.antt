-- Taking a chunk looks at the needed hashes alone. Assumes nothing.
use mathlib.Core.Path.{◌≡◌, refl, sym, ap, ap₂, ◌∙◌}
use mathlib.Core.Bool.{Bool, true, false}
use mathlib.Core.List.{List}
use mathlib.Core.Option.{Option, get_or}
use Prim.Native.Nat.{ℕ, suc, ◌*◌, ◌/◌, ◌%◌, ◌^◌, ◌<◌}
use native.Mathlib.Omega.{arith}
use lib.ListN.{length}
use Rattle.hash.proofs.Promise.{sha256}
use Rattle.bits.proofs.Promise.{bit_at, set_bit}
use Rattle.base.specs.Pick.{pick}
use Rattle.tree.specs.Node.{sibling_from, above}
use Rattle.tree.specs.Pack.{chunk_size, levels}
use Rattle.tree.specs.Peaks.{peaks}
use Rattle.tree.specs.Tree.{climb}
use Rattle.tree.specs.Verdicts.{every, number, named, peaks_trusted, reached, verdict}
use Rattle.tree.specs.Verdicts.{Verdict}
use Rattle.tree.proofs.PeakTests.{bit-peak}
use Rattle.tree.proofs.TrueLaws as truth
use Rattle.tree.proofs.NeededLaws as theory
use Rattle.verdict.specs.Room.{filler, put_hash}
use Rattle.verdict.specs.Integrity.{Integrity, came_from}
use Rattle.verdict.specs.Rooms.{Rooms, rooms_of, count_of, state_of}
use Rattle.verdict.specs.Steps.{trusted_in, got_by}
use Rattle.store.specs.Storing.{Put, mark, put_all, copied, stored, store_spec}
use Rattle.store.specs.Steps.{put_peaks}
use Rattle.store.specs.Answers.{earlier, chunk_answer}
use Rattle.store.specs.Calls.{rooms_answer, take_spec}
use Rattle.base.specs.Out.{out_of, unless_at, unless}
use Rattle.store.proofs.PutLaws.{all-is}
use Rattle.store.proofs.StoringLaws.{peaks-alike, path-alike}
use Rattle.store.specs.Needed.{SameNeeded}

-- ---- the call

module _ (w : Rooms) (L c : ℕ) (o p : Integrity) (A : SameNeeded L w c o p) where
  abbrev N : ℕ
  N = count_of L

  abbrev peaks_open : Bool
  peaks_open = every (trusted_in w.trusted) (peaks N)

  peaks-agree : peaks_open ≡ false → (h : ℕ) → N / 2 ^ h % 2 ≡ 1 → got_by o h (above (suc h) N) ≡ got_by p h (above (suc h) N)
  unfolding SameNeeded peaks_trusted
  peaks-agree e h b =
      let q = bit-peak N h b in
      ap (λ (x : Option (List ℕ)). get_or x filler) (theory.peaks-agree N (state_of L w) c (came_from o) (came_from p) A e h (above (suc h) N) q.0 q.1)

  siblings-agree : (h : ℕ) → h < reached N (state_of L w) c → got_by o h (sibling_from h c) ≡ got_by p h (sibling_from h c)
  unfolding SameNeeded
  siblings-agree h l = ap (λ (x : Option (List ℕ)). get_or x filler) (theory.siblings-agree N (state_of L w) c (came_from o) (came_from p) A h l)

  module _ (r d : List ℕ) where
    verdicts-same : verdict sha256 filler N r (state_of L w) c d (came_from o) ≡ verdict sha256 filler N r (state_of L w) c d (came_from p)
    unfolding SameNeeded
    verdicts-same = theory.needed_only N (state_of L w) c (came_from o) (came_from p) A sha256 filler r d

    put_same : (put : Put) (t : ℕ) (l : List ℕ) → t ≡ reached N (state_of L w) c → put_all put peaks_open N c t d (got_by o) l ≡ put_all put peaks_open N c t d (got_by p) l
    put_same put t l e =
        all-is put peaks_open N c t d (got_by o) l
        ∙ path-alike put (got_by o) (got_by p) (λ h. climb sha256 (got_by o) (sha256 d) c h) (λ h. climb sha256 (got_by p) (sha256 d) c h) c t
        (go peaks_open refl)
        (λ h u. truth.climb-agree sha256 (got_by o) (got_by p) (sha256 d) c h (λ k i. siblings-agree k (omega arith)))
        (λ h u. siblings-agree h (omega arith))
        ∙ sym (all-is put peaks_open N c t d (got_by p) l)
      where
        go : (b : Bool) → peaks_open ≡ b → pick b l (put_peaks put (got_by o) N (suc (levels N)) l) ≡ pick b l (put_peaks put (got_by p) N (suc (levels N)) l)
        go true q = refl
        go false q = peaks-alike put (got_by o) (got_by p) N (suc (levels N)) l (peaks-agree q)

    store_same : (t : ℕ) → t ≡ reached N (state_of L w) c → store_spec w N c t d o ≡ store_spec w N c t d p
    unfolding store_spec stored peaks_trusted
    store_same t e =
        ap₂ (λ (x y : List ℕ). pick (bit_at w.map c) w (rooms_of (copied w.bytes (chunk_size * c) d) (set_bit w.map c) x y))
        (put_same put_hash t w.hashes e) (put_same mark t w.trusted e)

    pub take_same : take_spec w r L c d o ≡ take_spec w r L c d p
    unfolding take_spec
    take_same =
        ap₂ (λ (v : Verdict) (x : Rooms). unless (earlier (rooms_answer L w) (chunk_answer L c (length d))) w (unless_at (number v) (named v) w (out_of 0 0 x)))
        verdicts-same (store_same (reached N (state_of L w) c) refl)
