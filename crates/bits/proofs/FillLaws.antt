-- A run of words filled with one value; filled with 0 they are clear. Assumes nothing.
use Prim.Native.Nat.{ℕ, zero, suc, ◌+◌, ◌-◌, ◌*◌, ◌/◌, ◌≤◌, ◌<◌, min}
use native.Mathlib.Omega.{arith}
use native.Mathlib.Numerals.{add-one}
use native.Mathlib.Decide.{dec_lt, ℕ_discrete}
use mathlib.Core.Path.{◌≡◌, refl, sym, ap, ◌∙◌}
use mathlib.Core.Bool.{false}
use mathlib.Core.List.{List, []}
use lib.ListN.{length, get_or, set, length-set, get_or-eq_default, replicate, take, drop}
use lib.Seq.{get_or-set_same, get_or-set_other, set_out}
use Rattle.bits.specs.Bits.{bit_at, run}
use Rattle.bits.proofs.WordLaws.{bit_of_zero}
use Rattle.bits.proofs.RunLaws.{run_join, run_none}
use Rattle.std.proofs.lemmas.Slice.{put_mid-paste}
use Rattle.std.proofs.lemmas.List.Edits.{fill_from_more, paste_none}
use Rattle.std.proofs.Common.{length-take-le, length-drop}
use Rattle.std.proofs.lemmas.List.{length-replicate}
use borrow.Rule.Slice.PartMut.{put_mid}
use lib.Seq.{paste}

-- The change of one word to v.
abbrev pub fill_at : ℕ → List ℕ → ℕ → List ℕ
fill_at v ws w = set ws w v

module _ (v : ℕ) where
  pub length-fill : (n a : ℕ) (ws : List ℕ) → length (run (fill_at v) n a ws) ≡ length ws
  unfolding run
  length-fill zero a ws = refl
  length-fill (suc n) a ws = length-set (run (fill_at v) n a ws) (a + n) v ∙ length-fill n a ws

  pub fill-out : (n a : ℕ) (ws : List ℕ) (i : ℕ) → (a ≤ i → i < a + n → ⊥)
      → get_or (run (fill_at v) n a ws) i 0 ≡ get_or ws i 0
  unfolding run
  fill-out zero a ws i h = refl
  fill-out (suc n) a ws i h =
      get_or-set_other (run (fill_at v) n a ws) (a + n) i v 0 (λ e. h (omega arith) (omega arith))
      ∙ fill-out n a ws i (λ p q. h p (omega arith))

  -- Past the row nothing changes.
  fill-past : (n a : ℕ) (ws : List ℕ) → length ws ≤ a → ws ≡ run (fill_at v) n a ws
  unfolding run
  fill-past zero a ws h = refl
  fill-past (suc n) a ws h = rw (← fill-past n a ws h) (sym (set_out ws (a + n) v (omega arith)))

  -- The fill from a up to b, as far as the row goes.
  pub filled : (n a : ℕ) (ws : List ℕ) → a + n ≤ length ws → paste ws a (replicate n v) n ≡ run (fill_at v) n a ws
  unfolding run
  filled zero a ws h = sym (paste_none ws a [])
  filled (suc n) a ws h =
      rw (← filled n a ws (omega arith)) (ap (λ (k : ℕ). paste ws a (replicate k v) k) (sym (add-one n)) ∙ sym (fill_from_more ws a n v (omega arith)))

  pub filled_none : (a b : ℕ) (ws : List ℕ) → min b (length ws) ≤ a → ws ≡ run (fill_at v) (b - a) a ws
  filled_none a b ws h = elim (dec_lt a b) [
    | yes l ↦ fill-past (b - a) a ws (omega arith)
    | no l ↦ run_none (fill_at v) a b ws (omega arith)
  ]

  -- What a fill of the slice from a to `end` leaves.
  pub filled_mid : (a b : ℕ) (ws : List ℕ) {end x : ℕ} {ys : List ℕ} → end ≡ min b (length ws) → a < end → x ≡ v
      → ys ≡ replicate (length (take (end - a) (drop a ws))) x → put_mid a (end - a) ws ys ≡ run (fill_at v) (b - a) a ws
  filled_mid a b ws {end} {x} {ys} e l f k =
      let m : length (take (end - a) (drop a ws)) ≡ end - a = length-take-le _ _ (omega (arith, length-drop a ws)) in
      put_mid-paste a (end - a) ws ys (replicate (end - a) v) (end - a) (rw (f, m) at k) refl (sym (length-replicate (end - a) v))
      ∙ filled (end - a) a ws (omega arith)
      ∙ elim (dec_lt end b) [
        | yes n ↦ run_join (fill_at v) a end ws b (omega arith) (omega arith) refl (fill-past (b - end) end _ (omega (arith, length-fill (end - a) a ws)))
        | no n ↦ let z : b - a ≡ end - a = omega arith in rw z
      ]

-- ---- cleared

cleared : (ws : List ℕ) (w : ℕ) → get_or (set ws w 0) w 0 ≡ 0
cleared ws w = elim (dec_lt w (length ws)) [
  | yes l ↦ get_or-set_same ws w 0 0 l
  | no n ↦ ap (λ (x : List ℕ). get_or x w 0) (set_out ws w 0 (omega arith)) ∙ get_or-eq_default ws 0 (omega arith)
]

pub cleared_in : (n a : ℕ) (ws : List ℕ) (i : ℕ) → a ≤ i → i < a + n → get_or (run (fill_at 0) n a ws) i 0 ≡ 0
unfolding run
cleared_in zero a ws i h l = absurd (omega arith)
cleared_in (suc n) a ws i h l =
    elim (ℕ_discrete i (a + n)) [
      | yes e ↦ rw e (cleared (run (fill_at 0) n a ws) (a + n))
      | no d ↦ get_or-set_other (run (fill_at 0) n a ws) (a + n) i 0 0 d ∙ cleared_in n a ws i h (omega arith)
    ]

module _ (n a : ℕ) (ws : List ℕ) (j : ℕ) where
  pub cleared-bit : 32 * a ≤ j → j < 32 * (a + n) → bit_at (run (fill_at 0) n a ws) j ≡ false
  unfolding bit_at
  cleared-bit h l = rw (cleared_in n a ws (j / 32) (omega arith) (omega arith), bit_of_zero)

  pub cleared-bit-out : (32 * a ≤ j → j < 32 * (a + n) → ⊥) → bit_at (run (fill_at 0) n a ws) j ≡ bit_at ws j
  unfolding bit_at
  cleared-bit-out h = rw (fill-out 0 n a ws (j / 32) (λ p q. h (omega arith) (omega arith)))
