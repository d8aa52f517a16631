-- The least number that passes a test. Assumes nothing.
use Rattle.std.proofs.Common.{◌≡◌, ℕ, zero, suc, ◌+◌, ◌<◌, ◌≤◌, Bool, true, false, ◌⊎◌, sym, ap, ◌∙◌, inl, inr, true≢false, arith}
use Rattle.base.specs.Pick.{pick}
use Rattle.base.proofs.PickLaws.{either}
use Rattle.tree.specs.Pack.{least_from}
use Rattle.tree.proofs.NodeLaws.{split}

-- t passes, and is the least from h on; p is a bound
pub record Least (f : ℕ → Bool) (h p t : ℕ) : Type 0 where
  pub passes : f t ≡ true
  pub within : (h ≤ t) × (t ≤ p)
  pub before : (k : ℕ) → h ≤ k → k < t → f k ≡ false

pub least_finds : (f : ℕ → Bool) (p : ℕ) → f p ≡ true → (d h : ℕ) → h ≤ p → p ≤ h + d → Least f h p (least_from f d h)
unfolding least_from
least_finds f p e zero h l u =
    let z : p ≡ h = omega arith in record { passes = rw z at e; within = omega arith; before = λ k i j. absurd (omega arith) }
least_finds f p e (suc d) h l u = go (either (f h)) (least_finds f p e d (suc h))
  where
    go : (f h ≡ true) ⊎ (f h ≡ false) → (suc h ≤ p → p ≤ suc h + d → Least f (suc h) p (least_from f d (suc h))) → Least f h p (pick (f h) h (least_from f d (suc h)))
    go (inl b) ih = rw b (record { passes = b; within = omega arith; before = λ k i j. absurd (omega arith) })
    go (inr b) ih = rw b (one (split p h))
      where
        at : (k : ℕ) → h ≤ k → (suc h ≤ k → f k ≡ false) → (k ≤ h) ⊎ (h < k) → f k ≡ false
        at k i j (inl q) = let z : k ≡ h = omega arith in rw z b
        at k i j (inr q) = j q

        one : (p ≤ h) ⊎ (h < p) → Least f h p (least_from f d (suc h))
        one (inl q) = let z : p ≡ h = omega arith in absurd (true≢false (sym e ∙ ap f z ∙ b))
        one (inr q) =
            let r = ih q (omega arith) in
            record { passes = r.passes; within = let w = r.within in omega arith; before = λ k i j. at k i (λ m. r.before k m j) (split k h) }
