-- Hexadecimal (01, "The replay program": "either case read, lower case written"). Assumes nothing.
use Rattle.std.specs.Prelude.{ℕ, ◌+◌, ◌-◌, ◌*◌, ◌/◌, ◌%◌, Bool, true, false, List, [], ◌∷◌, ltb}
use Rattle.base.specs.Pick.{pick}

-- ---- digits

-- Whether a character lies between two, both included.
abbrev pub between : (first last c : ℕ) → Bool
between first last c = pick (ltb c first) false (ltb c (last + 1))

-- The value of a digit, by its ASCII code: `0` to `9`, `A` to `F`, `a` to `f`. 16 for any other character.
unfoldable pub digit_of : ℕ → ℕ
digit_of c =
    pick (between 48 57 c) (c - 48) (pick (between 65 70 c) (c - 65 + 10) (pick (between 97 102 c) (c - 97 + 10) 16))

-- The digit of a value under 16, in lower case.
unfoldable pub digit_for : ℕ → ℕ
digit_for x = pick (ltb x 10) (48 + x) (87 + x)

-- Whether every character is a digit.
unfoldable pub all_digits : List ℕ → Bool
all_digits [] = true
all_digits (c ∷ s) = pick (ltb (digit_of c) 16) (all_digits s) false

-- ---- bytes

-- The bytes of digits, two each. A digit without its second is left out; no frame has one.
unfoldable pub decoded : List ℕ → List ℕ
decoded [] = []
decoded (c ∷ []) = []
decoded (c ∷ d ∷ s) = (digit_of c * 16 + digit_of d) ∷ decoded s

-- The digits of bytes.
unfoldable pub encoded : List ℕ → List ℕ
encoded [] = []
encoded (b ∷ s) = digit_for (b / 16) ∷ digit_for (b % 16) ∷ encoded s
