-- A chunk's bytes after one chunk was written. Assumes nothing.
use mathlib.Core.Path.{◌≡◌, refl, sym, ap, ◌∙◌}
use mathlib.Core.Logic.{◌⊎◌, inl, inr}
use mathlib.Core.List.{List, ◌++◌, append_assoc}
use Prim.Native.Nat.{ℕ, ◌+◌, ◌-◌, ◌≤◌}
use native.Mathlib.Omega.{arith}
use lib.ListN.{length, take, drop, take-append-drop, length-drop}
use lib.Seq.{take_at, drop_at, paste, take-append-le, drop-append-le, drop-drop, drop-paste, length-take-le, take-length}
use Rattle.store.specs.Storing.{copied}

-- only the front counts
front : (i m : ℕ) (p q : List ℕ) → i + m ≤ length p → take m (drop i (p ++ q)) ≡ take m (drop i p)
front i m p q h =
    ap (take m) (drop-append-le i p q (omega arith)) ∙ take-append-le m (drop i p) q (omega (arith, length-drop i p))

module _ (l s : List ℕ) (at : ℕ) (fits : at + length s ≤ length l) where
  -- what was written
  pub copied-in : take (length s) (drop at (copied l at s)) ≡ s
  unfolding copied
  copied-in =
      ap (λ (x : List ℕ). take (length s) (drop at x)) (append_assoc (take at l) (take (length s) s) (drop (at + length s) l))
      ∙ ap (take (length s)) (drop_at (take at l) (take (length s) s ++ drop (at + length s) l) at (length-take-le at l (omega arith)))
      ∙ take_at (take (length s) s) (drop (at + length s) l) (length s) (ap length (take-length s)) ∙ take-length s

  -- before it, and after it
  pub copied-out : (i m : ℕ) → (i + m ≤ at) ⊎ (at + length s ≤ i) → take m (drop i (copied l at s)) ≡ take m (drop i l)
  unfolding copied
  copied-out i m (inl h) =
      let e = length-take-le at l (omega arith) in
      ap (λ (x : List ℕ). take m (drop i x)) (append_assoc (take at l) (take (length s) s) (drop (at + length s) l))
      ∙ front i m (take at l) (take (length s) s ++ drop (at + length s) l) (omega arith)
      ∙ sym (ap (λ (x : List ℕ). take m (drop i x)) (sym (take-append-drop at l)) ∙ front i m (take at l) (drop at l) (omega arith))
  copied-out i m (inr h) =
      let k = i - (at + length s) in
      let e : at + length s + k ≡ i = omega arith in
      ap (take m)
      (ap (λ (x : ℕ). drop x (paste l at s (length s))) (sym e) ∙ sym (drop-drop k (at + length s) (paste l at s (length s)))
      ∙ ap (drop k) (drop-paste l at s (length s) (omega arith) (omega arith)) ∙ drop-drop k (at + length s) l ∙ ap (λ (x : ℕ). drop x l) e)

-- a whole content, copied to the front
pub copied-whole : (l s : List ℕ) → length s ≤ length l → (i m : ℕ) → (m ≡ 0) ⊎ (i + m ≤ length s) → take m (drop i (copied l 0 s)) ≡ take m (drop i s)
unfolding copied
copied-whole l s h i m (inl e) = rw e refl
copied-whole l s h i m (inr e) = ap (λ (x : List ℕ). take m (drop i (x ++ drop (0 + length s) l))) (take-length s) ∙ front i m s (drop (0 + length s) l) e
