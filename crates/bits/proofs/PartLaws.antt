-- A run of bits by words: within a word at once, and over whole words word by word. Assumes nothing.
use Prim.Native.Nat.{ℕ, zero, suc, ◌+◌, ◌-◌, ◌*◌, ◌/◌, ◌%◌, ◌^◌, ◌≤◌, ◌<◌}
use native.Mathlib.Nat.{add-suc, add-zero, add_assoc}
use native.Mathlib.Numerals.{add-one}
use native.Mathlib.Omega.{arith}
use native.Mathlib.Decide.{dec_lt}
use mathlib.Core.Path.{◌≡◌, refl, sym, ap, ◌∙◌}
use mathlib.Core.Logic.{◌≢◌}
use mathlib.Core.Bool.{Bool, true, false}
use mathlib.Core.List.{List}
use lib.ListN.{length, get_or, set}
use lib.Seq.{get_or-set_same, set_out, set-set}
use lib.Bits.{and_zero_r, or_add_and, and_mask}
use Rattle.bits.specs.Bits.{set_bit, clear_bit, run, clear_words}
use Rattle.bits.specs.Steps.{mask, with_bits, without_bits, change_word, change_bit, change_range}
use Rattle.bits.proofs.RunLaws.{run-append, run_join}
use Rattle.bits.proofs.FillLaws.{fill_at, fill-out}
use Rattle.bits.proofs.MaskLaws.{with_bits-one, with_bits-more, without_bits-one, without_bits-more}

-- The change f of one bit is the change g of its word from that bit up to the next; and g from bit a up to b, then from b
-- up to the next, is g from a up to that.
pub record Masked (f : List ℕ → ℕ → List ℕ) (g : ℕ → ℕ → ℕ → ℕ) : Type 0 where
  pub one : (ws : List ℕ) (i : ℕ) → f ws i ≡ set ws (i / 32) (g (get_or ws (i / 32) 0) (i % 32) (suc (i % 32)))
  pub more : (x a b : ℕ) → a ≤ b → b < 32 → g (g x a b) b (suc b) ≡ g x a (suc b)

pub setting_bits : Masked set_bit with_bits
unfolding set_bit
setting_bits = record {
  one = λ ws i. rw with_bits-one;
  more = λ x a b h l. with_bits-one _ b ∙ with_bits-more x a b h;
}

pub clearing_bits : Masked clear_bit without_bits
unfolding clear_bit
clearing_bits = record {
  one = λ ws i. rw without_bits-one;
  more = λ x a b h l. without_bits-one _ b ∙ without_bits-more x a b h l;
}

-- The bits from bit a up to b of a word changed at once.
abbrev change_bits : Bool → ℕ → ℕ → ℕ → ℕ
change_bits v x a b = change_word v x (mask a b)

changing : (v : Bool) → Masked (change_bit v) (change_bits v)
unfolding with_bits without_bits
changing true = setting_bits
changing false = clearing_bits

module _ (f : List ℕ → ℕ → List ℕ) (g : ℕ → ℕ → ℕ → ℕ) (c : Masked f g) where
  -- Bit a of word w.
  at-word : (ws : List ℕ) (w a : ℕ) → a < 32 → f ws (32 * w + a) ≡ set ws w (g (get_or ws w 0) a (suc a))
  at-word ws w a h =
      let p : (32 * w + a) / 32 ≡ w = omega arith in
      let q : (32 * w + a) % 32 ≡ a = omega arith in
      rw (p, q) at (c.one ws (32 * w + a))

  -- A word changed twice.
  again : (ws : List ℕ) (w v a : ℕ)
      → set (set ws w v) w (g (get_or (set ws w v) w 0) a (suc a)) ≡ set ws w (g v a (suc a))
  again ws w v a = elim (dec_lt w (length ws)) [
    | yes l ↦ rw (get_or-set_same ws w v 0 l) (set-set ws w v (g v a (suc a)))
    | no n ↦ set-set ws w v _ ∙ set_out ws w _ (omega arith) ∙ sym (set_out ws w _ (omega arith))
  ]

  -- The n + 1 bits from bit a on of word w.
  in-word : (ws : List ℕ) (w a n : ℕ) → a + n < 32
      → run f (suc n) (32 * w + a) ws ≡ set ws w (g (get_or ws w 0) a (a + suc n))
  unfolding run
  in-word ws w a zero h = rw (add-zero, add-one) (at-word ws w a (omega arith))
  in-word ws w a (suc n) h =
      rw (in-word ws w a n (omega arith), add_assoc (32 * w) a (suc n), at-word _ w (a + suc n) h, again)
      (rw (add-suc a (suc n), c.more _ a (a + suc n) (omega arith) h))

  module _ (ws : List ℕ) (a b : ℕ) (h : a < b) (l : b ≤ 32 * (a / 32 + 1)) where
    -- A run within a word is one change of the word.
    pub part_is : set ws (a / 32) (g (get_or ws (a / 32) 0) (a % 32) (b - 32 * (a / 32))) ≡ run f (b - a) a ws
    part_is =
        let m : b - a ≡ suc (b - a - 1) = omega arith in
        let at : 32 * (a / 32) + a % 32 ≡ a = omega arith in
        let upto : a % 32 + suc (b - a - 1) ≡ b - 32 * (a / 32) = omega arith in
        sym (rw m (rw (at, upto) at (in-word ws (a / 32) (a % 32) (b - a - 1) (omega arith))))

    -- Past the row nothing changes.
    pub part-past : length ws ≤ a / 32 → ws ≡ run f (b - a) a ws
    part-past p = sym (set_out ws (a / 32) _ p) ∙ part_is

  -- A run over whole words fills them with v, where that is what g makes of each.
  module _ (v a : ℕ) (ws : List ℕ) (full : (n : ℕ) → g (get_or (run (fill_at v) n a ws) (a + n) 0) 0 32 ≡ v) where
    all_words : (n : ℕ) → run (fill_at v) n a ws ≡ run f (32 * n) (32 * a) ws
    unfolding run
    all_words zero = refl
    all_words (suc n) =
        let us : List ℕ = run (fill_at v) n a ws in
        let at : 32 * (a + n) + 0 ≡ 32 * a + 32 * n = omega arith in
        let more : 32 * suc n ≡ 32 * n + 32 = omega arith in
        rw (more, ← run-append f (32 * n) 32 (32 * a) ws, ← all_words n, ← at, in-word us (a + n) 0 31 (omega arith))
        (ap (set us (a + n)) (sym (full n)))

    pub words_are : (b : ℕ) → run (fill_at v) (b - a) a ws ≡ run f (32 * b - 32 * a) (32 * a) ws
    words_are b = let e : 32 * b - 32 * a ≡ 32 * (b - a) = omega arith in rw e (all_words (b - a))

-- ---- as the code has it

-- The head, the whole words and the tail.
pub range_is : (f : List ℕ → ℕ → List ℕ) (a b : ℕ) (ws : List ℕ) {us vs xs : List ℕ} → a < b → a / 32 ≢ (b - 1) / 32
    → us ≡ run f (32 * (a / 32 + 1) - a) a ws
    → vs ≡ run f (32 * ((b - 1) / 32) - 32 * (a / 32 + 1)) (32 * (a / 32 + 1)) us
    → xs ≡ run f (b - 32 * ((b - 1) / 32)) (32 * ((b - 1) / 32)) vs
    → xs ≡ run f (b - a) a ws
range_is f a b ws h d e g k =
    run_join f a (32 * ((b - 1) / 32)) ws b (omega arith) (omega arith)
    (run_join f a (32 * (a / 32 + 1)) ws (32 * ((b - 1) / 32)) (omega arith) (omega arith) e g)
    k

module _ (v : Bool) (ws : List ℕ) (a b : ℕ) (h : a < b) (l : b ≤ 32 * (a / 32 + 1)) where
  pub change-part-is : {m x : ℕ} → m ≡ mask (a % 32) (b - 32 * (a / 32)) → x ≡ change_word v (get_or ws (a / 32) 0) m
      → set ws (a / 32) x ≡ change_range v ws a b
  unfolding change_range
  change-part-is e k = rw (k, e) (part_is _ _ (changing v) ws a b h l)

  pub change-part-past : length ws ≤ a / 32 → ws ≡ change_range v ws a b
  unfolding change_range
  change-part-past = part-past _ _ (changing v) ws a b h l

-- A word all of whose bits are changed.
abbrev pub whole : Bool → ℕ
whole v = change_word v 0 (2 ^ 32 - 1)

changed_whole : (v : Bool) (x : ℕ) → x < 2 ^ 32 → change_bits v x 0 32 ≡ whole v
unfolding mask
changed_whole true x h = omega (arith, or_add_and x (2 ^ 32 - 1), and_mask x 32, or_add_and 0 (2 ^ 32 - 1), and_mask 0 32)
changed_whole false x h = and_zero_r x ∙ sym (and_zero_r 0)

full_clear : (x : ℕ) → without_bits x 0 32 ≡ 0
unfolding without_bits mask
full_clear = and_zero_r

module _ (ws : List ℕ) (a b : ℕ) where
  -- Words filled with `whole` are changed bit by bit.
  pub change-words-are : (v : Bool) → ((i : ℕ) → get_or ws i 0 < 2 ^ 32)
      → run (fill_at (whole v)) (b - a) a ws ≡ change_range v ws (32 * a) (32 * b)
  unfolding change_range
  change-words-are v h =
      words_are _ _ (changing v) (whole v) a ws
      (λ n. changed_whole v _ (rw (fill-out _ n a ws (a + n) (λ p q. omega arith)) (h (a + n))))
      b

  pub clear-words-are : change_range false ws (32 * a) (32 * b) ≡ clear_words ws a b
  unfolding change_range clear_words
  clear-words-are = sym (words_are _ _ clearing_bits 0 a ws (λ n. full_clear _) b)
