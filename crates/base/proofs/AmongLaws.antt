-- Which numbers a chain of tests can give. Assumes nothing.
use Prim.Native.Nat.{ℕ, zero, suc}
use mathlib.Core.Path.{◌≡◌, refl, sym, ap, ◌∙◌}
use mathlib.Core.Logic.{◌≢◌}
use mathlib.Core.Bool.{Bool, true, false, true≢false}
use mathlib.Core.List.{List, [], ◌∷◌}
use lib.Dec.{eqb}
use borrow.Author.Tests.{eqb-true}
use Rattle.base.specs.Pick.{pick, earlier}
use Rattle.base.specs.Among.{among, OneOf}
use Rattle.base.proofs.PickLaws.{both_true}

-- By a test, one of two such numbers.
pub pick-one : (ms : List ℕ) (b : Bool) (x y : ℕ) → OneOf ms x → OneOf ms y → OneOf ms (pick b x y)
pick-one ms true x y p q = p
pick-one ms false x y p q = q

-- The earlier of two such numbers.
pub earlier-one : (ms : List ℕ) (x y : ℕ) → OneOf ms x → OneOf ms y → OneOf ms (earlier x y)
earlier-one ms zero y p q = q
earlier-one ms (suc x) y p q = p

-- All numbers of one list are among another.
unfoldable pub all_among : List ℕ → List ℕ → Bool
all_among [] ks = true
all_among (m ∷ ms) ks = pick (among ks m) (all_among ms ks) false

pub one_of_more : (ms ks : List ℕ) (n : ℕ) → all_among ms ks ≡ true → OneOf ms n → OneOf ks n
unfolding among all_among
one_of_more [] ks n s p = absurd (true≢false (sym p))
one_of_more (m ∷ ms) ks n s p =
    let t = both_true (among ks m) (all_among ms ks) s in
    by (eqb n m) refl t.0 p (one_of_more ms ks n t.1)
  where
    by : (b : Bool) → eqb n m ≡ b → among ks m ≡ true → pick b true (among ms n) ≡ true → (OneOf ms n → OneOf ks n) → OneOf ks n
    by true e q r ih = ap (among ks) (eqb-true n m e) ∙ q
    by false e q r ih = ih r

-- A number that is not among them is another.
pub not_one : (ms : List ℕ) (n k : ℕ) → among ms k ≡ false → OneOf ms n → n ≢ k
not_one ms n k s p e = true≢false (sym p ∙ ap (among ms) e ∙ s)
