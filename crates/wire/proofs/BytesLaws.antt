-- Laws of comparing bytes, and of a slice's part from an index on. Assumes nothing.
use Prim.Native.Nat.{ℕ, ◌-◌, ◌<◌}
use native.Mathlib.Omega.{arith}
use mathlib.Core.Path.{◌≡◌, refl}
use mathlib.Core.List.{List, [], ◌∷◌}
use mathlib.Core.Bool.{Bool, true, false, ◌&&◌}
use lib.ListN.{length, take, drop, length-drop}
use lib.Seq.{take_all}
use lib.Dec.{eqb}
use Rattle.std.specs.List.{starts_with}
use Rattle.base.specs.Pick.{pick}
use Rattle.wire.specs.Bytes.{begins}

-- the part of a slice from an index on, as the code has it
pub part : (n : ℕ) (t : List ℕ) → take (length t - n) (drop n t) ≡ drop n t
part n t = take_all (length t - n) (drop n t) (omega (arith, length-drop n t))

-- what the library's test says
pub begins_starts : (p s : List ℕ) → begins p s ≡ starts_with eqb s p
unfolding begins
begins_starts [] s = refl
begins_starts (x ∷ p) [] = refl
begins_starts (x ∷ p) (y ∷ s) = by (eqb x y) (begins_starts p s)
  where
    by : (b : Bool) → begins p s ≡ starts_with eqb s p → pick b (begins p s) false ≡ (b && starts_with eqb s p)
    by true e = e
    by false e = refl

-- a list does not begin with a longer one
pub begins-short : (p s : List ℕ) → length s < length p → begins p s ≡ false
unfolding begins
begins-short [] s h = absurd (omega arith)
begins-short (x ∷ p) [] h = refl
begins-short (x ∷ p) (y ∷ s) h = by (eqb x y) (begins-short p s (omega arith))
  where
    by : (b : Bool) → begins p s ≡ false → pick b (begins p s) false ≡ false
    by true e = e
    by false e = refl
