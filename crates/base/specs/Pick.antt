-- One of two: by a test, and the earlier of two numbers. Assumes nothing.
use Rattle.std.specs.Prelude.{ℕ, zero, suc, Bool, true, false}

abbrev pub pick : {A : Type 0} → Bool → A → A → A
pick true x y = x
pick false x y = y

-- The first of two numbers, if it refuses: it is then not 0.
abbrev pub earlier : ℕ → ℕ → ℕ
earlier zero n = n
earlier (suc m) n = suc m
