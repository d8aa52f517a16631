-- Laws of a list stored in a room: its length, a run behind another, the room's front. Assumes nothing.
use Prim.Native.Nat.{ℕ, suc, ◌+◌, ◌≤◌}
use native.Mathlib.Omega.{arith}
use native.Mathlib.Nat.{add-zero, add-suc, suc-add}
use mathlib.Core.Path.{◌≡◌, refl, sym, ap, ◌∙◌}
use mathlib.Core.List.{List, [], ◌∷◌, ◌++◌}
use lib.ListN.{length, take, drop, set, length-append}
use lib.Seq.{sets, sets-eq, length-sets, take_at, length-take-le}
use Rattle.wire.specs.Bytes.{placed}

-- one run of stores behind another
pub sets_append : (a b l : List ℕ) (i : ℕ) → sets l i (a ++ b) ≡ sets (sets l i a) (i + length a) b
sets_append [] b l i = rw (add-zero i)
sets_append (x ∷ a) b l i = sets_append a b (set l i x) (suc i) ∙ ap (λ (k : ℕ). sets (sets (set l i x) (suc i) a) k b) (suc-add i (length a) ∙ sym (add-suc i (length a)))

-- storing keeps the room's length
pub placed-length : (l : List ℕ) (at : ℕ) (a : List ℕ) {m : List ℕ} → m ≡ placed l at a → length m ≡ length l
unfolding placed
placed-length l at a e = ap length e ∙ length-sets l at a

-- one store
pub placed_cell : (l : List ℕ) (at x : ℕ) → set l at x ≡ placed l at (x ∷ [])
unfolding placed
placed_cell l at x = refl

-- no store
pub placed-none : (l : List ℕ) (at : ℕ) → l ≡ placed l at []
unfolding placed
placed-none l at = refl

-- two runs, one behind the other
module _ (l : List ℕ) (at : ℕ) where
  pub placed-then : (a b : List ℕ) (i : ℕ) → at + length a ≡ i → {m n : List ℕ} → m ≡ placed l at a → n ≡ placed m i b → n ≡ placed l at (a ++ b)
  unfolding placed
  placed-then a b i e {m} {n} p q = q ∙ rw (← e) (ap (λ (k : List ℕ). sets k (at + length a) b) p ∙ sym (sets_append a b l at))

-- the part of the room up to the end of what was stored
pub placed-front : (l : List ℕ) (at : ℕ) (a : List ℕ) → at + length a ≤ length l → take (at + length a) (placed l at a) ≡ take at l ++ a
unfolding placed
placed-front l at a h =
    rw (sets-eq a l at h)
    (take_at (take at l ++ a) (drop (at + length a) l) (at + length a) (length-append (take at l) a ∙ ap (λ (k : ℕ). k + length a) (length-take-le at l (omega arith))))
