-- One bit of a row: what setting or clearing it does to that bit, to the others and to the row's length. Assumes nothing.
use Prim.Native.Nat.{ℕ, ◌-◌, ◌*◌, ◌/◌, ◌%◌, ◌^◌, ◌≤◌, ◌<◌}
use native.Mathlib.Omega.{arith}
use native.Mathlib.Decide.{dec_lt, ℕ_discrete}
use mathlib.Core.Path.{◌≡◌, refl, sym, ap}
use mathlib.Core.Logic.{◌≢◌}
use mathlib.Core.List.{List}
use mathlib.Core.Bool.{Bool, true, false}
use lib.ListN.{length, get_or, set, length-set, get_or-eq_default}
use lib.Seq.{get_or-set_same, get_or-set_other, set_out}
use lib.Dec.{eqb}
use lib.Bits.{bit_and, bit_or, and_mask}
use Rattle.bits.specs.Bits.{bit, bit_at, with_bit, without_bit, set_bit, clear_bit}
use Rattle.bits.specs.Steps.{change_word, change_bit}
use Rattle.bits.proofs.WordLaws.{shl_one, bit_of_zero, with_bit-same, with_bit-other, without_bit-same, without_bit-other}

-- ---- what the code computes where the row has the word

pub test_is : (ws : List ℕ) (i : ℕ) → eqb (bit_and (get_or ws (i / 32) 0 / 2 ^ (i % 32)) 1) 1 ≡ bit_at ws i
unfolding bit_at bit
test_is ws i = rw (and_mask (get_or ws (i / 32) 0 / 2 ^ (i % 32)) 1)

pub set_is : (ws : List ℕ) (i : ℕ) → set ws (i / 32) (bit_or (get_or ws (i / 32) 0) (1 * 2 ^ (i % 32) % 2 ^ 32)) ≡ set_bit ws i
unfolding set_bit with_bit
set_is ws i = rw (shl_one 32 (i % 32) (omega arith))

pub clear_is : (ws : List ℕ) (i : ℕ) → set ws (i / 32) (bit_and (get_or ws (i / 32) 0) (2 ^ 32 - 1 - 1 * 2 ^ (i % 32) % 2 ^ 32)) ≡ clear_bit ws i
unfolding clear_bit without_bit
clear_is ws i = rw (shl_one 32 (i % 32) (omega arith))

pub change_is : (v : Bool) (ws : List ℕ) (i : ℕ) {x : ℕ} → x ≡ change_word v (get_or ws (i / 32) 0) (1 * 2 ^ (i % 32) % 2 ^ 32)
    → set ws (i / 32) x ≡ change_bit v ws i
change_is true ws i e = rw e (set_is ws i)
change_is false ws i e = rw e (clear_is ws i)

-- ---- past the row

pub bit_at-past : (ws : List ℕ) (i : ℕ) → length ws * 32 ≤ i → bit_at ws i ≡ false
unfolding bit_at
bit_at-past ws i h =
    let l : length ws ≤ i / 32 = omega arith in
    rw (get_or-eq_default ws 0 l, bit_of_zero)

pub set_bit-past : (ws : List ℕ) (i : ℕ) → length ws * 32 ≤ i → set_bit ws i ≡ ws
unfolding set_bit
set_bit-past ws i h = set_out ws (i / 32) _ (omega arith)

pub clear_bit-past : (ws : List ℕ) (i : ℕ) → length ws * 32 ≤ i → clear_bit ws i ≡ ws
unfolding clear_bit
clear_bit-past ws i h = set_out ws (i / 32) _ (omega arith)

pub change-past : (v : Bool) (ws : List ℕ) (i : ℕ) → length ws * 32 ≤ i → ws ≡ change_bit v ws i
change-past true ws i h = sym (set_bit-past ws i h)
change-past false ws i h = sym (clear_bit-past ws i h)

-- ---- a bit that is changed, and the others

-- A store of v in word q leaves bit r of word p where v has that bit as word q had it.
row_other : (ws : List ℕ) (q v p r : ℕ) → (p ≡ q → bit v r ≡ bit (get_or ws q 0) r) → bit (get_or (set ws q v) p 0) r ≡ bit (get_or ws p 0) r
row_other ws q v p r h = elim (ℕ_discrete p q) [ yes e ↦ same e | no n ↦ rw (get_or-set_other ws q p v 0 n) ]
  where
    same : p ≡ q → bit (get_or (set ws q v) p 0) r ≡ bit (get_or ws p 0) r
    same e =
        rw e (elim (dec_lt q (length ws)) [
          | yes l ↦ rw (get_or-set_same ws q v 0 l) (h e)
          | no n ↦ rw (set_out ws q v (omega arith))
        ])

module _ (ws : List ℕ) (i : ℕ) where
  pub length-set_bit : length (set_bit ws i) ≡ length ws
  unfolding set_bit
  length-set_bit = simp length-set

  pub length-clear_bit : length (clear_bit ws i) ≡ length ws
  unfolding clear_bit
  length-clear_bit = simp length-set

  pub bit_at-set-same : i < length ws * 32 → bit_at (set_bit ws i) i ≡ true
  unfolding bit_at set_bit
  bit_at-set-same h =
      let l : i / 32 < length ws = omega arith in
      rw (get_or-set_same ws (i / 32)) (rw with_bit-same refl)

  pub bit_at-clear-same : i < length ws * 32 → bit_at (clear_bit ws i) i ≡ false
  unfolding bit_at clear_bit
  bit_at-clear-same h =
      let l : i / 32 < length ws = omega arith in
      let m : i % 32 < 32 = omega arith in
      rw (get_or-set_same ws (i / 32)) (rw without_bit-same refl)

  pub bit_at-set-other : (j : ℕ) → j ≢ i → bit_at (set_bit ws i) j ≡ bit_at ws j
  unfolding bit_at set_bit
  bit_at-set-other j n =
      ap (λ (x : ℕ). eqb x 1)
      (row_other ws (i / 32) _ (j / 32) (j % 32) (λ e. with_bit-other _ (i % 32) (j % 32) (λ f. n (omega arith))))

  pub bit_at-clear-other : (j : ℕ) → j ≢ i → bit_at (clear_bit ws i) j ≡ bit_at ws j
  unfolding bit_at clear_bit
  bit_at-clear-other j n =
      ap (λ (x : ℕ). eqb x 1)
      (row_other ws (i / 32) _ (j / 32) (j % 32) (λ e. without_bit-other _ (i % 32) (omega arith) (j % 32) (omega arith) (λ f. n (omega arith))))
