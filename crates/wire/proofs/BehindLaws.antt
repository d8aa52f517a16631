-- What is written behind the options of a HANDSHAKE changes nothing of where they end. Assumes nothing.
use Prim.Native.Nat.{ℕ, zero, suc, ◌+◌, ◌<◌, ◌≤◌}
use native.Mathlib.Omega.{arith}
use mathlib.Core.Path.{◌≡◌, refl, sym, ◌∙◌}
use mathlib.Core.List.{List, [], ◌++◌}
use mathlib.Core.Bool.{Bool, true, false}
use mathlib.Core.Logic.{◌⊎◌, inl, inr}
use lib.ListN.{length, get_or, drop, length-append, length-drop}
use lib.Seq.{drop-append-le}
use lib.Dec.{ltb, eqb}
use borrow.Author.Tests.{le-ltb, eq-eqb, ne_eqb, ltb-false, eqb-true, eqb-false}
use Rattle.base.specs.Pick.{pick}
use Rattle.wire.specs.Bytes.{be16}
use Rattle.wire.specs.Options.{code, head_size, body_size, option_size, options_from, options_size}
use Rattle.wire.proofs.LocalLaws.{byte-local, be16-local}

-- an option has its code and a byte more
head_some : (k : ℕ) → 2 ≤ head_size k
unfolding head_size
head_some k = by (eqb k 2) (eqb k 7) (eqb k 9)
  where
    by : (a b c : Bool) → 2 ≤ pick a 3 (pick b 5 (pick c 5 2))
    by true b c = omega arith
    by false true c = omega arith
    by false false true = omega arith
    by false false false = omega arith

-- An option that is not refused: End, or one with a value that is all there.
pub record Valued (least : ℕ) (t : List ℕ) : Type 0 where
  pub other : code t ≡ 255 → ⊥
  pub rising : least ≤ code t
  pub known : code t ≤ 9
  pub whole : head_size (code t) + body_size t ≤ length t

module _ (least : ℕ) (t : List ℕ) where
  -- what a size other than 0 says
  pub option-view : (option_size least t ≡ 0 → ⊥) → ((1 ≤ length t) × (code t ≡ 255) × (option_size least t ≡ 1)) ⊎ (Valued least t × (option_size least t ≡ head_size (code t) + body_size t))
  unfolding option_size
  option-view = by₁ (ltb (length t) 1) refl
    where
      Seen : ℕ → Type 0
      Seen n = (n ≡ 0 → ⊥) → ((1 ≤ length t) × (code t ≡ 255) × (n ≡ 1)) ⊎ (Valued least t × (n ≡ head_size (code t) + body_size t))

      by₅ : (code t ≡ 255 → ⊥) → least ≤ code t → code t ≤ 9 → (x : Bool) → ltb (length t) (head_size (code t) + body_size t) ≡ x → Seen (pick x 0 (head_size (code t) + body_size t))
      by₅ o r k true e f = absurd (f refl)
      by₅ o r k false e f = inr (record { other = o; rising = r; known = k; whole = ltb-false _ _ e }, refl)

      by₄ : (code t ≡ 255 → ⊥) → least ≤ code t → (x : Bool) → ltb 9 (code t) ≡ x
          → Seen (pick x 0 (pick (ltb (length t) (head_size (code t) + body_size t)) 0 (head_size (code t) + body_size t)))
      by₄ o r true e f = absurd (f refl)
      by₄ o r false e f = by₅ o r (ltb-false _ _ e) _ refl f

      by₃ : (code t ≡ 255 → ⊥) → (x : Bool) → ltb (code t) least ≡ x
          → Seen (pick x 0 (pick (ltb 9 (code t)) 0 (pick (ltb (length t) (head_size (code t) + body_size t)) 0 (head_size (code t) + body_size t))))
      by₃ o true e f = absurd (f refl)
      by₃ o false e f = by₄ o (ltb-false _ _ e) _ refl f

      by₂ : 1 ≤ length t → (x : Bool) → eqb (code t) 255 ≡ x
          → Seen (pick x 1 (pick (ltb (code t) least) 0 (pick (ltb 9 (code t)) 0 (pick (ltb (length t) (head_size (code t) + body_size t)) 0 (head_size (code t) + body_size t)))))
      by₂ l true e f = inl (l, eqb-true _ _ e, refl)
      by₂ l false e f = by₃ (eqb-false _ _ e) _ refl f

      by₁ : (x : Bool) → ltb (length t) 1 ≡ x
          → Seen (pick x 0 (pick (eqb (code t) 255) 1 (pick (ltb (code t) least) 0 (pick (ltb 9 (code t)) 0 (pick (ltb (length t) (head_size (code t) + body_size t)) 0 (head_size (code t) + body_size t))))))
      by₁ true e f = absurd (f refl)
      by₁ false e f = by₂ (ltb-false _ _ e) _ refl f

  -- and back
  pub option-end : 1 ≤ length t → code t ≡ 255 → option_size least t ≡ 1
  unfolding option_size
  option-end l e = rw (le-ltb (length t) 1 l, eq-eqb (code t) 255 e)

  pub option-size-is : Valued least t → option_size least t ≡ head_size (code t) + body_size t
  unfolding option_size
  option-size-is v =
      let h = head_some (code t) in let w = v.whole in
      rw (
        le-ltb (length t) 1 (omega arith),
        ne_eqb (code t) 255 v.other,
        le-ltb (code t) least v.rising,
        le-ltb 9 (code t) v.known,
        le-ltb (length t) (head_size (code t) + body_size t) w,
      )

-- with bytes behind
module _ (t b : List ℕ) where
  code_local : 1 ≤ length t → code (t ++ b) ≡ code t
  code_local h = byte-local t b 0 h

  body-local : head_size (code t) ≤ length t → body_size (t ++ b) ≡ body_size t
  unfolding body_size head_size
  body-local = by (eqb (code t) 2) (eqb (code t) 7) (eqb (code t) 9) refl
    where
      by : (x y z : Bool) → eqb (code t) 2 ≡ x → pick x 3 (pick y 5 (pick z 5 2)) ≤ length t
          → pick (eqb (code (t ++ b)) 2) (be16 (t ++ b) 1) (pick (eqb (code (t ++ b)) 8) (get_or (t ++ b) 1 0) 0) ≡ pick x (be16 t 1) (pick (eqb (code t) 8) (get_or t 1 0) 0)
      by true y z e l = rw (code_local (omega arith), e, be16-local t b 1 (omega arith))
      by false true z e l = rw (code_local (omega arith), e, byte-local t b 1 (omega arith))
      by false false true e l = rw (code_local (omega arith), e, byte-local t b 1 (omega arith))
      by false false false e l = rw (code_local (omega arith), e, byte-local t b 1 (omega arith))

  pub option-local : (least : ℕ) → (option_size least t ≡ 0 → ⊥) → option_size least (t ++ b) ≡ option_size least t
  option-local least f = by (option-view least t f)
    where
      by : ((1 ≤ length t) × (code t ≡ 255) × (option_size least t ≡ 1)) ⊎ (Valued least t × (option_size least t ≡ head_size (code t) + body_size t)) → option_size least (t ++ b) ≡ option_size least t
      by (inl (l, e, n)) = option-end least (t ++ b) (omega (arith, length-append t b)) (code_local l ∙ e) ∙ sym n
      by (inr (v, n)) =
          let w = v.whole in let h = head_some (code t) in
          let c : code (t ++ b) ≡ code t = code_local (omega arith) in
          let d : body_size (t ++ b) ≡ body_size t = body-local (omega arith) in
          let more : length (t ++ b) ≡ length t + length b = length-append t b in
          let u : Valued least (t ++ b) = record { other = λ e. v.other (sym c ∙ e); rising = rw c v.rising; known = rw c v.known; whole = rw (c, d) (omega arith) } in
          option-size-is least (t ++ b) u ∙ rw (c, d) (sym n)

  -- it lies in the bytes
  pub option-fits : (least : ℕ) → option_size least t ≤ length t
  option-fits least = by (option_size least t) refl
    where
      by : (n : ℕ) → option_size least t ≡ n → n ≤ length t
      by zero e = omega arith
      by (suc n) e = at_most (option-view least t (λ z. omega (arith, e, z)))
        where
          at_most : ((1 ≤ length t) × (code t ≡ 255) × (option_size least t ≡ 1)) ⊎ (Valued least t × (option_size least t ≡ head_size (code t) + body_size t)) → suc n ≤ length t
          at_most (inl (l, c, q)) = omega (arith, e, q)
          at_most (inr (v, q)) = omega (arith, e, q, v.whole)

-- ---- all options

-- the options from t on, by the size k of the first one
abbrev options_on : ℕ → List ℕ → ℕ → ℕ → ℕ
options_on n t at k = pick (eqb k 0) 0 (pick (eqb k 1) (at + 1) (options_from n (code t + 1) (drop k t) (at + k)))

-- one with a value
on_value : (n : ℕ) (t : List ℕ) (at k : ℕ) → options_on n t at (suc (suc k)) ≡ options_from n (code t + 1) (drop (suc (suc k)) t) (at + suc (suc k))
on_value n t at k = rw (ne_eqb (suc (suc k)) 0 (λ e. omega arith), ne_eqb (suc (suc k)) 1 (λ e. omega arith))

-- the first option, and those behind it
pub options_on_lem : (n least : ℕ) (t : List ℕ) (at k : ℕ) → option_size least t ≡ suc (suc k) → options_from (suc n) least t at ≡ options_from n (code t + 1) (drop (suc (suc k)) t) (at + suc (suc k))
unfolding options_from
options_on_lem n least t at k e = rw e (on_value n t at k)

pub options_end : (n least : ℕ) (t : List ℕ) (at : ℕ) → 1 ≤ length t → code t ≡ 255 → options_from (suc n) least t at ≡ at + 1
unfolding options_from
options_end n least t at l e = rw (option-end least t l e)

pub options_local : (n least : ℕ) (t b : List ℕ) (at : ℕ) → (options_from n least t at ≡ 0 → ⊥) → options_from n least (t ++ b) at ≡ options_from n least t at
unfolding options_from
options_local zero least t b at f = refl
options_local (suc n) least t b at f = by (λ l r i g. options_local n l r b i g) (option_size least t) refl (λ z. f z)
  where
    by : ((l : ℕ) (r : List ℕ) (i : ℕ) → (options_from n l r i ≡ 0 → ⊥) → options_from n l (r ++ b) i ≡ options_from n l r i)
        → (k : ℕ) → option_size least t ≡ k → (options_on n t at k ≡ 0 → ⊥) → options_on n (t ++ b) at (option_size least (t ++ b)) ≡ options_on n t at k
    by ih zero e g = absurd (g refl)
    by ih (suc zero) e g = rw (option-local t b least (λ z. omega (arith, e, z)), e)
    by ih (suc (suc k)) e g =
        let fits = option-fits t b least in
        let s : option_size least (t ++ b) ≡ suc (suc k) = option-local t b least (λ z. omega (arith, e, z)) ∙ e in
        rw s
        (on_value n (t ++ b) at k
        ∙ rw (code_local t b (omega arith), drop-append-le (suc (suc k)) t b (omega arith)) (ih (code t + 1) (drop (suc (suc k)) t) (at + suc (suc k)) (λ z. g (on_value n t at k ∙ z)))
        ∙ sym (on_value n t at k))

-- they end in the bytes
pub options_fit : (n least : ℕ) (t : List ℕ) (at : ℕ) → options_from n least t at ≤ at + length t
unfolding options_from
options_fit zero least t at = omega arith
options_fit (suc n) least t at = by (λ l r i. options_fit n l r i) (option_size least t) (option-fits t [] least)
  where
    by : ((l : ℕ) (r : List ℕ) (i : ℕ) → options_from n l r i ≤ i + length r) → (k : ℕ) → k ≤ length t → options_on n t at k ≤ at + length t
    by ih zero h = omega arith
    by ih (suc zero) h = omega arith
    by ih (suc (suc k)) h =
        omega (arith, on_value n t at k, ih (code t + 1) (drop (suc (suc k)) t) (at + suc (suc k)), length-drop (suc (suc k)) t)

-- options of one byte are End alone
past : (n least : ℕ) (t : List ℕ) (at : ℕ) → (options_from n least t at ≡ 0 → ⊥) → at < options_from n least t at
unfolding options_from
past zero least t at f = absurd (f refl)
past (suc n) least t at f = by (λ l r i g. past n l r i g) (option_size least t) (λ z. f z)
  where
    by : ((l : ℕ) (r : List ℕ) (i : ℕ) → (options_from n l r i ≡ 0 → ⊥) → i < options_from n l r i) → (k : ℕ) → (options_on n t at k ≡ 0 → ⊥) → at < options_on n t at k
    by ih zero g = absurd (g refl)
    by ih (suc zero) g = omega arith
    by ih (suc (suc k)) g =
        let e = on_value n t at k in
        omega (arith, e, ih (code t + 1) (drop (suc (suc k)) t) (at + suc (suc k)) (λ z. g (e ∙ z)))

pub only_end : (t : List ℕ) → options_size t ≡ 1 → (1 ≤ length t) × (code t ≡ 255)
unfolding options_size options_from
only_end t e = by (option_size 0 t) refl e
  where
    valued : ((1 ≤ length t) × (code t ≡ 255) × (option_size 0 t ≡ 1)) ⊎ (Valued 0 t × (option_size 0 t ≡ head_size (code t) + body_size t)) → option_size 0 t ≡ 1 → (1 ≤ length t) × (code t ≡ 255)
    valued (inl (l, c, q)) s = (l, c)
    valued (inr (v, q)) s = absurd (omega (arith, s, q, head_some (code t)))

    by : (k : ℕ) → option_size 0 t ≡ k → options_on 10 t 0 k ≡ 1 → (1 ≤ length t) × (code t ≡ 255)
    by zero s f = absurd (omega (arith, f))
    by (suc zero) s f = valued (option-view 0 t (λ z. omega (arith, s, z))) s
    by (suc (suc k)) s f =
        let g = sym (on_value 10 t 0 k) ∙ f in
        absurd (omega (arith, g, past 10 (code t + 1) (drop (suc (suc k)) t) (0 + suc (suc k)) (λ z. omega (arith, g, z))))
