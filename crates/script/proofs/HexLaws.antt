-- Laws of hexadecimal digits. Assumes nothing.
use Prim.Native.Nat.{ℕ, suc, ◌+◌, ◌*◌, ◌/◌, ◌%◌, ◌<◌, ◌≤◌}
use native.Mathlib.Omega.{arith}
use mathlib.Core.Path.{◌≡◌, refl, sym, ◌∙◌}
use mathlib.Core.List.{List, [], ◌∷◌, ◌++◌, append-nil}
use mathlib.Core.Bool.{Bool, true, false}
use lib.ListN.{length, get_or, set, drop, length-append}
use lib.Seq.{sets, sets-eq, drop-cons}
use lib.Dec.{ltb}
use Rattle.std.specs.Option.{unwrap_or, is_some}
use Rattle.std.specs.Prelude.{◌&&◌, Option, Some, None}
use Rattle.std.proofs.lemmas.List.{drop_all}
use Rattle.base.specs.Pick.{pick}
use Rattle.script.specs.Hex.{digit_of, digit_for, all_digits, encoded}
use Rattle.script.specs.Steps.{digit_in, paired}

one : (n : ℕ) → n + 1 ≡ suc n
one n = omega arith

-- ---- two digits, and the others behind them

module _ (pair after : List ℕ) {rest : List ℕ} (r : rest ≡ pair ++ after) (h : length pair ≡ 2) where
  pub pair_length : length rest ≡ 2 + length after
  pair_length = rw (r, length-append pair after, h)

  module _ {x y : Option ℕ} (e : x ≡ digit_in (get_or pair 0 0)) (f : y ≡ digit_in (get_or pair 1 0)) where
    -- Their byte is stored, then those of the others.
    pub pair_first : (room : List ℕ) (at : ℕ)
        → sets (set room at (unwrap_or x 0 * 16 + unwrap_or y 0)) (at + 1) (paired after) ≡ sets room at (paired rest)
    unfolding paired
    pair_first room at = rw r (go pair h e f)
      where
        go : (p : List ℕ) → length p ≡ 2 → x ≡ digit_in (get_or p 0 0) → y ≡ digit_in (get_or p 1 0)
            → sets (set room at (unwrap_or x 0 * 16 + unwrap_or y 0)) (at + 1) (paired after) ≡ sets room at (paired (p ++ after))
        go [] h e f = absurd (omega arith)
        go (c ∷ []) h e f = absurd (omega arith)
        go (c ∷ d ∷ []) h e f = rw (e, f, one at)
        go (c ∷ d ∷ b ∷ p) h e f = absurd (omega arith)

    -- All so far, these two and the others.
    pub digits_first : (all : Bool) → pick (all && (is_some x && is_some y)) (all_digits after) false ≡ pick all (all_digits rest) false
    unfolding all_digits
    digits_first all = rw r (go pair h e f)
      where
        joined : (all m n t : Bool) (c d : ℕ)
            → pick (all && (is_some (pick m (Some c) None) && is_some (pick n (Some d) None))) t false
            ≡ pick all (pick m (pick n t false) false) false
        joined true true true t c d = refl
        joined true true false t c d = refl
        joined true false n t c d = refl
        joined false m n t c d = refl

        go : (p : List ℕ) → length p ≡ 2 → x ≡ digit_in (get_or p 0 0) → y ≡ digit_in (get_or p 1 0)
            → pick (all && (is_some x && is_some y)) (all_digits after) false ≡ pick all (all_digits (p ++ after)) false
        go [] h e f = absurd (omega arith)
        go (c ∷ []) h e f = absurd (omega arith)
        go (c ∷ d ∷ []) h e f =
            rw (e, f) (joined all (ltb (digit_of c) 16) (ltb (digit_of d) 16) (all_digits after) (digit_of c) (digit_of d))
        go (c ∷ d ∷ b ∷ p) h e f = absurd (omega arith)

-- Fewer than two are left, and not one.
pub pair_end : (rest room : List ℕ) (at : ℕ) → length rest < 2 → room ≡ sets room at (paired rest)
unfolding paired
pair_end [] room at h = refl
pair_end (c ∷ []) room at h = refl
pair_end (c ∷ d ∷ s) room at h = absurd (omega arith)

pub digits_end : (rest : List ℕ) (all : Bool) → length rest < 2 → length rest % 2 ≡ 0 → all ≡ pick all (all_digits rest) false
unfolding all_digits
digits_end [] true h e = refl
digits_end [] false h e = refl
digits_end (c ∷ []) all h e = absurd (omega arith)
digits_end (c ∷ d ∷ s) all h e = absurd (omega arith)

-- ---- digits stored to a part that they fill

-- Two digits a byte.
pub length-encoded : (s : List ℕ) → length (encoded s) ≡ 2 * length s
unfolding encoded
length-encoded [] = refl
length-encoded (b ∷ s) = rw (length-encoded s) (omega arith)

-- What is as long as a room takes its place.
pub sets_whole : (room s : List ℕ) → length room ≡ length s → sets room 0 s ≡ s
sets_whole room s h = sets-eq s room 0 (omega arith) ∙ rw (drop_all (0 + length s) room (omega arith)) (append-nil s)

-- The two of the byte at an index, then those of the others.
pub encode_one : (bytes : List ℕ) (i : ℕ) (part : List ℕ) {x y : ℕ} → i < length bytes
    → x ≡ digit_for (get_or bytes i 0 / 16) → y ≡ digit_for (get_or bytes i 0 % 16)
    → sets (set (set part (2 * i) x) (2 * i + 1) y) (2 * (i + 1)) (encoded (drop (i + 1) bytes)) ≡ sets part (2 * i) (encoded (drop i bytes))
unfolding encoded
encode_one bytes i part h e f = rw (e, f, drop-cons bytes i 0 h, one i, one (2 * i), further)
  where
    further : 2 * suc i ≡ suc (suc (2 * i))
    further = omega arith

-- No byte is left.
pub encode_end : (bytes : List ℕ) (i : ℕ) (part room : List ℕ) → length bytes ≤ i → length room ≡ 2 * length bytes
    → sets part (2 * i) (encoded (drop i bytes)) ≡ sets room 0 (encoded bytes) → part ≡ encoded bytes
unfolding encoded
encode_end bytes i part room h long e = last ∙ e ∙ sets_whole room (encoded bytes) (long ∙ sym (length-encoded bytes))
  where
    last : part ≡ sets part (2 * i) (encoded (drop i bytes))
    last = rw (drop_all i bytes h)
