-- The scratch that keeps a climb, filled height by height. Assumes nothing.
use mathlib.Core.Path.{◌≡◌, refl, sym, ap, ap₂, ◌∙◌}
use mathlib.Core.Logic.{◌⊎◌, inl, inr}
use mathlib.Core.List.{List}
use Prim.Native.Nat.{ℕ, zero, suc, ◌*◌, ◌≤◌, ◌<◌}
use native.Mathlib.Omega.{arith}
use lib.ListN.{length}
use Rattle.hash.proofs.Promise.{sha256}
use Rattle.tree.specs.Tree.{climb}
use Rattle.tree.specs.Verdicts.{Verdict}
use Rattle.std.specs.Prelude.{Ok}
use Rattle.verdict.specs.Room.{Digest, hash_in, put_hash}
use Rattle.verdict.specs.Integrity.{Integrity}
use Rattle.verdict.specs.Steps.{got_by, room_reached, kept, Judged, judged_of, scratch_by, judge_spec, room_verdict}
use Rattle.tree.proofs.NodeLaws.{split}
use Rattle.verdict.proofs.RoomLaws.{digest_hash, length-put_hash, hash-same, hash-other}
use Rattle.verdict.proofs.VerdictLaws.{fits_reached}

module _ (got : ℕ → ℕ → List ℕ) (v : List ℕ) (c : ℕ) where
  pub digest-climb : Digest v → (h : ℕ) → Digest (climb sha256 got v c h)
  unfolding climb
  digest-climb D zero = D
  digest-climb D (suc h) = digest_hash _

  -- turn by turn
  pub kept-none : (s : List ℕ) → s ≡ kept s got v c 0
  unfolding kept
  kept-none s = refl

  pub kept_more : (s : List ℕ) {s' s'' : List ℕ} (t : ℕ) {x : List ℕ} → s' ≡ kept s got v c t → x ≡ climb sha256 got v c t
      → s'' ≡ put_hash s' t x → s'' ≡ kept s got v c (suc t)
  unfolding kept
  kept_more s t e f g = g ∙ ap₂ (λ (y z : List ℕ). put_hash y t z) e f

  -- what is kept
  kept-length : (s : List ℕ) (t : ℕ) → length (kept s got v c t) ≡ length s
  unfolding kept
  kept-length s zero = refl
  kept-length s (suc t) = length-put_hash (kept s got v c t) t _ ∙ kept-length s t

  pub kept_at : (s : List ℕ) → Digest v → (t : ℕ) → 8 * t ≤ length s → (h : ℕ) → h < t → hash_in (kept s got v c t) h ≡ climb sha256 got v c h
  unfolding kept
  kept_at s D zero u h l = absurd (omega arith)
  kept_at s D (suc t) u h l = go (split t h) (kept_at s D t (omega arith) h)
    where
      go : (t ≤ h) ⊎ (h < t) → (h < t → hash_in (kept s got v c t) h ≡ climb sha256 got v c h)
          → hash_in (put_hash (kept s got v c t) t (climb sha256 got v c t)) h ≡ climb sha256 got v c h
      go (inl m) ih =
          let q : h ≡ t = omega arith in
          rw q (hash-same (kept s got v c t) t (climb sha256 got v c t) (omega (arith, kept-length s t)) (digest-climb D t))
      go (inr m) ih = hash-other (kept s got v c t) t h _ (λ z. omega arith) ∙ ih m

-- ---- by the verdict

module _ (s : List ℕ) (N : ℕ) (r hashes trusted : List ℕ) (c : ℕ) (d : List ℕ) (o : Integrity) where
  module _ {v : Verdict} {s' : List ℕ} (j : judged_of v s' ≡ judge_spec s N r hashes trusted c d o) where
    pub judged-verdict : v ≡ room_verdict N r hashes trusted c d o
    unfolding judge_spec
    judged-verdict = ap (λ (x : Judged). x.told) j

    -- where the chunk fits, the scratch keeps its climb
    pub judged-climb : (t : ℕ) → v ≡ Ok t → 8 * t ≤ length s → (h : ℕ) → h < t → hash_in s' h ≡ climb sha256 (got_by o) (sha256 d) c h
    unfolding judge_spec
    judged-climb t e u h l =
        let f : room_verdict N r hashes trusted c d o ≡ Ok t = sym judged-verdict ∙ e in
        let g : t ≡ room_reached N trusted c = fits_reached N r hashes trusted c d o t f in
        ap (λ (x : Judged). hash_in x.scratch h) j
        ∙ ap (λ (x : Verdict). hash_in (scratch_by x s (kept s (got_by o) (sha256 d) c (room_reached N trusted c))) h) f
        ∙ ap (λ (x : ℕ). hash_in (kept s (got_by o) (sha256 d) c x) h) (sym g)
        ∙ kept_at (got_by o) (sha256 d) c s (digest_hash d) t u h l
