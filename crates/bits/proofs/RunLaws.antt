-- A run of bits, for any change of one bit; setting and clearing are the two. Assumes nothing.
use Prim.Native.Nat.{ℕ, zero, suc, ◌+◌, ◌-◌, ◌*◌, ◌≤◌, ◌<◌}
use native.Mathlib.Nat.{add-suc, add-zero, add_assoc}
use native.Mathlib.Omega.{arith}
use native.Mathlib.Decide.{ℕ_discrete}
use mathlib.Core.Path.{◌≡◌, refl, ◌∙◌}
use mathlib.Core.Logic.{◌≢◌}
use mathlib.Core.List.{List}
use mathlib.Core.Bool.{Bool, true, false}
use lib.ListN.{length}
use Rattle.bits.specs.Bits.{bit_at, set_bit, clear_bit, run}
use Rattle.bits.proofs.RowLaws.{length-set_bit, length-clear_bit, bit_at-set-same, bit_at-clear-same, bit_at-set-other, bit_at-clear-other}

-- The change f of one bit leaves it at v, the other bits and the row's length as they were.
pub record Change (f : List ℕ → ℕ → List ℕ) (v : Bool) : Type 0 where
  pub long : (ws : List ℕ) (i : ℕ) → length (f ws i) ≡ length ws
  pub same : (ws : List ℕ) (i : ℕ) → i < length ws * 32 → bit_at (f ws i) i ≡ v
  pub other : (ws : List ℕ) (i j : ℕ) → j ≢ i → bit_at (f ws i) j ≡ bit_at ws j

pub setting : Change set_bit true
setting = record { long = length-set_bit; same = bit_at-set-same; other = bit_at-set-other }

pub clearing : Change clear_bit false
clearing = record { long = length-clear_bit; same = bit_at-clear-same; other = bit_at-clear-other }

module _ (f : List ℕ → ℕ → List ℕ) (v : Bool) (c : Change f v) where
  pub length_run : (n a : ℕ) (ws : List ℕ) → length (run f n a ws) ≡ length ws
  unfolding run
  length_run zero a ws = refl
  length_run (suc n) a ws = c.long (run f n a ws) (a + n) ∙ length_run n a ws

  pub run_in : (n a : ℕ) (ws : List ℕ) (j : ℕ) → a ≤ j → j < a + n → j < length ws * 32 → bit_at (run f n a ws) j ≡ v
  unfolding run
  run_in zero a ws j h l m = absurd (omega arith)
  run_in (suc n) a ws j h l m =
      elim (ℕ_discrete j (a + n)) [
        | yes e ↦ rw e (c.same (run f n a ws) (a + n) (rw length_run (omega arith)))
        | no k ↦ c.other (run f n a ws) (a + n) j k ∙ run_in n a ws j h (omega arith) m
      ]

  pub run_out : (n a : ℕ) (ws : List ℕ) (j : ℕ) → (a ≤ j → j < a + n → ⊥) → bit_at (run f n a ws) j ≡ bit_at ws j
  unfolding run
  run_out zero a ws j h = refl
  run_out (suc n) a ws j h =
      c.other (run f n a ws) (a + n) j (λ e. h (omega arith) (omega arith)) ∙ run_out n a ws j (λ p q. h p (omega arith))

-- ---- from one place up to another

-- Two runs, one behind the other.
pub run-append : (f : List ℕ → ℕ → List ℕ) (m n a : ℕ) (ws : List ℕ)
    → run f n (a + m) (run f m a ws) ≡ run f (m + n) a ws
unfolding run
run-append f m zero a ws = rw add-zero
run-append f m (suc n) a ws = rw (add-suc m n, run-append f m n a ws, add_assoc a m n)

module _ (f : List ℕ → ℕ → List ℕ) (a b : ℕ) (ws : List ℕ) where
  pub run_none : b ≤ a → ws ≡ run f (b - a) a ws
  unfolding run
  run_none h = let z : b - a ≡ 0 = omega arith in rw z

  -- From a up to b, then from b up to c.
  pub run_join : (c : ℕ) {us vs : List ℕ} → a ≤ b → b ≤ c
      → us ≡ run f (b - a) a ws → vs ≡ run f (c - b) b us → vs ≡ run f (c - a) a ws
  run_join c h l e g =
      let more : c - a ≡ b - a + (c - b) = omega arith in
      let at : a + (b - a) ≡ b = omega arith in
      rw (more, ← run-append f (b - a) (c - b) a ws, at, ← e) g
