-- Two strings are the same exactly where the test says so. Assumes nothing.
use mathlib.Core.Path.{◌≡◌, refl}
use mathlib.Core.Logic.{◌≢◌}
use mathlib.Core.Bool.{Bool, true, false, ◌&&◌}
use mathlib.Core.List.{List, [], ◌∷◌}
use Prim.Native.Nat.{ℕ}
use native.Mathlib.Omega.{arith}
use native.Mathlib.Decide.{ℕ_discrete}
use borrow.Author.Tests.{eq-eqb, ne_eqb}
use lib.Dec.{eqb}
use Rattle.base.specs.Same.{same}

pub same_refl : (s : List ℕ) → same s s ≡ true
unfolding same
same_refl [] = refl
same_refl (x ∷ s) = rw (eq-eqb x x refl) (same_refl s)

differ : false ≡ true → ⊥
differ e = let z : ◌≡◌ {A = ℕ} 0 1 = cc in omega arith

never : (q : Bool) → (q && false) ≡ false
never true = refl
never false = refl

pub same_not : (s t : List ℕ) → s ≢ t → same s t ≡ false
unfolding same
same_not [] [] d = absurd (d refl)
same_not [] (y ∷ t) d = refl
same_not (x ∷ s) [] d = refl
same_not (x ∷ s) (y ∷ t) d = go (ℕ_discrete x y) (λ n. same_not s t n)
  where
    go : Dec (x ≡ y) → (s ≢ t → same s t ≡ false) → (eqb x y && same s t) ≡ false
    go (yes e) ih = rw (ih (λ f. d (rw (e, f)))) (never (eqb x y))
    go (no n) ih = rw (ne_eqb x y n)

pub same_is : (s t : List ℕ) → same s t ≡ true → s ≡ t
unfolding same
same_is [] [] e = refl
same_is [] (y ∷ t) e = absurd (differ e)
same_is (x ∷ s) [] e = absurd (differ e)
same_is (x ∷ s) (y ∷ t) e = go (ℕ_discrete x y) (λ f. same_is s t f)
  where
    go : Dec (x ≡ y) → (same s t ≡ true → s ≡ t) → x ∷ s ≡ y ∷ t
    go (yes f) ih = rw (f, ih (rw (eq-eqb x y f) at e))
    go (no n) ih = absurd (differ (rw (ne_eqb x y n) at e))
