-- Laws of the options' layout, test by test as the code has them. Assumes nothing.
use Prim.Native.Nat.{ℕ, zero, suc, ◌+◌, ◌-◌, ◌<◌, ◌≤◌}
use native.Mathlib.Omega.{arith}
use mathlib.Core.Path.{◌≡◌, refl, sym, ◌∙◌}
use mathlib.Core.List.{List}
use mathlib.Core.Bool.{Bool, true, false, true≢false}
use lib.ListN.{length, take, drop, length-drop}
use lib.Dec.{ltb, eqb}
use borrow.Author.Tests.{lt-ltb, le-ltb, le-leb, lt-leb, eq-eqb, ne_eqb, ltb-true, ltb-false}
use Rattle.base.specs.Pick.{pick}
use Rattle.wire.specs.Bytes.{begins}
use Rattle.wire.specs.Options.{code, head_size, body_size, option_size, options_from, is_fixed, fixed_head, fixed_tail, fixed_size, tail_place}
use Rattle.wire.proofs.BytesLaws.{part, begins-short}
use Rattle.format.specs.declared.Format.{Format}

-- the tests of the code
pub ruleset tests = (le-ltb, lt-ltb, le-leb, lt-leb, eq-eqb, ne_eqb)

-- an option with a value has a code of 9 or less
pub option_code : (least : ℕ) (t : List ℕ) → 1 < option_size least t → code t ≤ 9
unfolding option_size
option_code least t = step (ltb (length t) 1) (eqb (code t) 255) (ltb (code t) least) (ltb 9 (code t)) refl _
  where
    step : (b₁ b₂ b₃ b₄ : Bool) → ltb 9 (code t) ≡ b₄ → (n : ℕ) → 1 < pick b₁ 0 (pick b₂ 1 (pick b₃ 0 (pick b₄ 0 n))) → code t ≤ 9
    step true b₂ b₃ b₄ e n h = absurd (omega arith)
    step false true b₃ b₄ e n h = absurd (omega arith)
    step false false true b₄ e n h = absurd (omega arith)
    step false false false true e n h = absurd (omega arith)
    step false false false false e n h = ltb-false 9 (code t) e

-- a head has two bytes at least
pub head_least : (k : ℕ) → 2 ≤ head_size k
unfolding head_size
head_least k = by (eqb k 2) (eqb k 7) (eqb k 9)
  where
    by : (a b c : Bool) → 2 ≤ pick a 3 (pick b 5 (pick c 5 2))
    by true b c = omega arith
    by false true c = omega arith
    by false false true = omega arith
    by false false false = omega arith

-- ---- an option with a value

module _ (least : ℕ) (t : List ℕ) (some : 1 ≤ length t) (other : code t ≡ 255 → ⊥) (rising : least ≤ code t) (known : code t ≤ 9) (h : ℕ) (he : h ≡ head_size (code t)) where
  -- its head is cut short
  pub option-short : length t < h → 0 ≡ option_size least t
  unfolding option_size
  option-short l =
      let m : length t < head_size (code t) + body_size t = omega (arith, l, he) in
      simp (le-ltb _ _ some, ne_eqb _ _ other, le-ltb _ _ rising, le-ltb _ _ known, lt-ltb _ _ m)

  module _ (b : ℕ) (be : b ≡ body_size t) where
    -- its body is cut short
    pub option-cut : length t < h + b → 0 ≡ option_size least t
    unfolding option_size
    option-cut l = simp (le-ltb _ _ some, ne_eqb _ _ other, le-ltb _ _ rising, le-ltb _ _ known, ← he, ← be, lt-ltb _ _ l)

    -- it is whole
    pub option-whole : h + b ≤ length t → h + b ≡ option_size least t
    unfolding option_size
    option-whole l = simp (le-ltb _ _ some, ne_eqb _ _ other, le-ltb _ _ rising, le-ltb _ _ known, ← he, ← be, le-ltb _ _ l)

-- ---- the options one by one

module _ (least : ℕ) (t : List ℕ) (at : ℕ) where
  -- a refused option
  pub scan-bad : (n : ℕ) → 0 < n → option_size least t ≡ 0 → options_from n least t at ≡ 0
  unfolding options_from
  scan-bad zero h e = absurd (omega arith)
  scan-bad (suc n) h e = simp (eq-eqb (option_size least t) 0 e)

  -- End
  pub scan-end : (n : ℕ) → 0 < n → option_size least t ≡ 1 → options_from n least t at ≡ at + 1
  unfolding options_from
  scan-end zero h e = absurd (omega arith)
  scan-end (suc n) h e = rw e

  -- an option with a value
  pub scan-on : (n : ℕ) → 0 < n → 1 < option_size least t → options_from n least t at ≡ options_from (n - 1) (code t + 1) (drop (option_size least t) t) (at + option_size least t)
  unfolding options_from
  scan-on zero h l = absurd (omega arith)
  scan-on (suc n) h l =
      let q : suc n - 1 ≡ n = omega arith in
      rw (q, ne_eqb (option_size least t) 0 (λ e. omega arith), ne_eqb (option_size least t) 1 (λ e. omega arith))

  -- too many options
  pub scan-out : (n : ℕ) → n ≤ 0 → options_from n least t at ≡ 0
  unfolding options_from
  scan-out zero h = refl
  scan-out (suc n) h = absurd (omega arith)

-- a size that is neither 0 nor 1
pub above-one : (least : ℕ) (t : List ℕ) (n : ℕ) → n ≡ option_size least t → (n ≡ 0 → ⊥) → (n ≡ 1 → ⊥) → 1 < option_size least t
above-one least t n e p q = omega (arith, e)

-- ---- the fixed options

module _ (F : Format) (t : List ℕ) where
  -- too few bytes
  pub fixed-short : length t < fixed_size → false ≡ is_fixed F t
  unfolding is_fixed
  fixed-short h = by (begins fixed_head t) (begins-short (fixed_tail F) (drop tail_place t) (omega (arith, length-drop tail_place t)))
    where
      by : (b : Bool) → begins (fixed_tail F) (drop tail_place t) ≡ false → false ≡ pick b (begins (fixed_tail F) (drop tail_place t)) false
      by true e = sym e
      by false e = refl

  -- the fixed options have their size
  pub fixed-long : {b : Bool} → b ≡ is_fixed F t → b ≡ true → fixed_size ≤ length t
  fixed-long {b} e p = by (ltb (length t) fixed_size) refl
    where
      by : (c : Bool) → ltb (length t) fixed_size ≡ c → fixed_size ≤ length t
      by true q = let f = fixed-short (ltb-true (length t) fixed_size q) in let z : true ≡ false = cc in absurd (true≢false z)
      by false q = ltb-false (length t) fixed_size q

  module _ (b : Bool) (front : b ≡ begins fixed_head t) where
    -- other bytes before the root
    pub fixed-front : b ≡ false → false ≡ is_fixed F t
    unfolding is_fixed
    fixed-front p = simp (← front, p)

    -- the bytes behind the root decide
    pub fixed_back : b ≡ true → {r : Bool} → r ≡ begins (fixed_tail F) (take (length t - tail_place) (drop tail_place t)) → r ≡ is_fixed F t
    unfolding is_fixed
    fixed_back p q = q ∙ simp (← front, p, part)
