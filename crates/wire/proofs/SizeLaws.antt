-- Laws of a size as an option, in which 0 is none. Assumes nothing.
use Prim.Native.Nat.{ℕ, zero, suc}
use mathlib.Core.Path.{◌≡◌, refl, ap}
use Rattle.std.specs.Prelude.{Some, None}
use Rattle.wire.specs.Steps.{some_size}

-- 0 is none
pub size-none : {m : ℕ} → 0 ≡ m → None ≡ some_size m
size-none e = ap some_size e

-- one that is not 0 is there
pub size-there : (n : ℕ) {m : ℕ} → n ≡ m → (n ≡ 0 → ⊥) → Some n ≡ some_size m
size-there zero e h = absurd (h refl)
size-there (suc n) e h = ap some_size e

-- one that is there is the number, and not 0
pub size-said : {n : ℕ} (m : ℕ) → Some n ≡ some_size m → (n ≡ m) × (n ≡ 0 → ⊥)
size-said zero e = absurd (cc)
size-said (suc m) e = (cc, λ z. cc)

-- none is 0
pub size-unsaid : (m : ℕ) → None ≡ some_size m → m ≡ 0
size-unsaid zero e = refl
size-unsaid (suc m) e = absurd (cc)
