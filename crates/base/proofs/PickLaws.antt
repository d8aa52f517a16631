-- Laws of tests. Assumes nothing.
use mathlib.Core.Path.{◌≡◌, refl, sym}
use mathlib.Core.Logic.{◌⊎◌, inl, inr}
use mathlib.Core.Bool.{Bool, true, false, true≢false}
use Rattle.base.specs.Pick.{pick}

-- two tests that both hold
pub both_true : (b x : Bool) → pick b x false ≡ true → (b ≡ true) × (x ≡ true)
both_true true x e = (refl, e)
both_true false x e = absurd (true≢false (sym e))

-- a test holds or not
pub either : (b : Bool) → (b ≡ true) ⊎ (b ≡ false)
either true = inl refl
either false = inr refl
