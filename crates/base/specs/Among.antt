-- One of some numbers. Assumes nothing.
use Rattle.std.specs.Prelude.{ℕ, ◌≡◌, Bool, true, false, List, [], ◌∷◌, eqb}
use Rattle.base.specs.Pick.{pick}

-- Whether n is among the numbers.
unfoldable pub among : List ℕ → ℕ → Bool
among [] n = false
among (m ∷ ms) n = pick (eqb n m) true (among ms n)

abbrev pub OneOf : List ℕ → ℕ → Type 0
OneOf ms n = among ms n ≡ true
