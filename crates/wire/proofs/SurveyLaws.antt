-- Laws of the survey: one turn of it, its end, and what a plain message adds to it and to the layout. Assumes nothing.
use Prim.Native.Nat.{ℕ, zero, suc, ◌+◌, ◌-◌, ◌<◌, ◌≤◌, max}
use native.Mathlib.Omega.{arith}
use mathlib.Core.Path.{◌≡◌, refl, ap, ◌∙◌}
use mathlib.Core.List.{List}
use mathlib.Core.Bool.{true, Bool, false}
use lib.ListN.{length, drop, length-drop}
use borrow.Author.Tests.{lt-ltb, le-ltb, eq-eqb, ltb-true, ltb-false}
use Rattle.wire.specs.Read.{step_at}
use Rattle.wire.specs.Layout.{Checked, checked_of, number_of, layout_step, layout_from, layout_of}
use Rattle.wire.specs.Steps.{plain_size, survey_of, higher, acting, survey_step, survey_from, survey_all, survey_spec, surveyed}
use Rattle.wire.specs.declared.message.Step.{Step}
use Rattle.wire.specs.declared.message.Step.TheVariants.{End, Read}
use Rattle.wire.specs.Layout.{Messages}
use Rattle.wire.specs.declared.survey.Survey.{Survey}
use Rattle.wire.proofs.PlaceLaws.{place-least, not_none, none-reach}
use Rattle.wire.proofs.ViewLaws.{View, the_end, refused, a_handshake, a_data, an_ack, a_have, an_integrity, a_request, a_cancel, a_choke, an_unchoke, end_is, an_empty}
use Rattle.wire.specs.declared.message.Cursor.{Cursor}
use Rattle.format.specs.declared.Format.{Format}
use Rattle.wire.specs.declared.message.Message.{Message}
use Rattle.wire.specs.Place.{first_of, is_empty, last_of, named_size, reach, timed_size}
use lib.Dec.{ltb}
use Rattle.base.specs.Pick.{pick}

-- ---- one turn of the definitions, and their end

pub layout-turn : (F : Format) (left : ℕ) (s es : List ℕ) (at : ℕ) → 0 < left → layout_from F left s es at ≡ layout_step s es at (step_at F s at) (λ gs x. layout_from F (left - 1) s gs x)
unfolding layout_from
layout-turn F zero s es at h = absurd (omega arith)
layout-turn F (suc n) s es at h = let q : suc n - 1 ≡ n = omega arith in rw q

pub survey-turn : (F : Format) (left : ℕ) (s : List ℕ) (at : ℕ) (v : Survey) → 0 < left → survey_from F left s at v ≡ survey_step F (step_at F s at) v (λ x w. survey_from F (left - 1) s x w)
unfolding survey_from
survey-turn F zero s at v h = absurd (omega arith)
survey-turn F (suc n) s at v h = let q : suc n - 1 ≡ n = omega arith in rw q

-- at the datagram's end stands nothing
pub past_end : (F : Format) (s : List ℕ) (at : ℕ) → length s ≤ at → step_at F s at ≡ End
past_end F s at h = end_is F at (drop at s) (omega (arith, length-drop at s))

-- no turn is left, or no byte
pub layout-done : (F : Format) (left : ℕ) (s es : List ℕ) (at used : ℕ) → length es ≡ used → (0 < left → length s ≤ at) → layout_from F left s es at ≡ checked_of (Messages used) es
unfolding layout_from
layout-done F zero s es at used e h = rw e
layout-done F (suc n) s es at used e h = ap (λ (st : Step). layout_step s es at st (λ gs x. layout_from F n s gs x)) (past_end F s at (h (omega arith))) ∙ rw e

pub survey-done : (F : Format) (left : ℕ) (s : List ℕ) (at : ℕ) (v : Survey) → (0 < left → length s ≤ at) → survey_from F left s at v ≡ v
unfolding survey_from
survey-done F zero s at v h = refl
survey-done F (suc n) s at v h = ap (λ (st : Step). survey_step F st v (λ x w. survey_from F n s x w)) (past_end F s at (h (omega arith)))

-- unless the datagram is refused, the survey is that of all messages
pub survey_passed : (F : Format) (s : List ℕ) → number_of (layout_of F s).layout ≡ 0 → survey_spec F s ≡ survey_all F s
unfolding survey_spec
survey_passed F s e = rw (eq-eqb _ _ e)

-- the code's greater of two
pub higher-max : (a b : ℕ) → max a b ≡ higher a b
higher-max a b = by (ltb a b) refl
  where
    by : (x : Bool) → ltb a b ≡ x → max a b ≡ pick x b a
    by true e = omega (arith, ltb-true a b e)
    by false e = omega (arith, ltb-false a b e)

-- ---- a plain message

module _ (F : Format) (size : ℕ) (t : List ℕ) (v : Survey) where
  -- of its size alone
  module _ {n : ℕ} (ne : n ≡ named_size F) where
    pub acting-single : size < n → survey_of v.highest true ≡ acting F size t v
    unfolding acting
    acting-single h = simp (lt-ltb size (named_size F) (omega (arith, ne, h)))

    -- by its chunks, also where they are none
    pub acting-range : n ≤ size → {x : ℕ} → x ≡ reach F (first_of F t) (last_of F t) → {y : ℕ} → y ≡ higher v.highest x → survey_of y true ≡ acting F size t v
    unfolding acting
    acting-range h xe ye = rw (ye, xe, le-ltb size (named_size F) (omega (arith, ne, h))) (ap (λ (z : ℕ). survey_of z true) (by (is_empty F t) refl))
      where
        by : (none : Bool) → is_empty F t ≡ none
            → higher v.highest (reach F (first_of F t) (last_of F t)) ≡ pick none v.highest (higher v.highest (reach F (first_of F t) (last_of F t)))
        by true e = rw (none-reach F t e, le-ltb v.highest 0 (omega arith))
        by false e = refl

-- what a plain message that names chunks adds
acting_is : (F : Format) (size : ℕ) (t : List ℕ) (v : Survey) → named_size F ≤ size → is_empty F t ≡ false
    → survey_of (higher v.highest (reach F (first_of F t) (last_of F t))) true ≡ acting F size t v
unfolding acting
acting_is F size t v h o = simp (le-ltb size (named_size F) h, o)

acting-none : (F : Format) (size : ℕ) (t : List ℕ) (v : Survey) → is_empty F t ≡ true → survey_of v.highest true ≡ acting F size t v
unfolding acting
acting-none F size t v o = by (ltb size (named_size F))
  where
    by : (x : Bool) → survey_of v.highest true ≡ survey_of (pick x v.highest (pick (is_empty F t) v.highest (higher v.highest (reach F (first_of F t) (last_of F t))))) true
    by true = refl
    by false = rw o

acting-one : (F : Format) (t : List ℕ) (v : Survey) → survey_of v.highest true ≡ acting F 1 t v
unfolding acting
acting-one F t v = simp (lt-ltb 1 (named_size F) (omega (arith, place-least F)))

pub plain-surveyed : (F : Format) (at : ℕ) (v : Survey) {t : List ℕ} {m : Message} {next : Cursor} → View F at t (Read m next) → (plain_size F (Read m next) ≡ 0 → ⊥)
    → surveyed F m v ≡ acting F (plain_size F (Read m next)) t v
plain-surveyed F at v (a_handshake k l o) h = absurd (h refl)
plain-surveyed F at v (a_data k l o) h = absurd (h refl)
plain-surveyed F at v {t} (an_ack k l o) h = acting_is F (timed_size F) t v (omega arith) (not_none F t o.0)
plain-surveyed F at v {t} (a_have k l o) h = acting_is F (named_size F) t v (omega arith) o.0
plain-surveyed F at v (an_integrity k l o) h = absurd (h refl)
plain-surveyed F at v {t} (a_request k l o) h = acting_is F (named_size F) t v (omega arith) o.0
plain-surveyed F at v {t} (a_cancel k l o) h = acting_is F (named_size F) t v (omega arith) o.0
plain-surveyed F at v {t} (a_choke k l) h = acting-one F t v
plain-surveyed F at v {t} (an_unchoke k l) h = acting-one F t v
plain-surveyed F at v {t} (an_empty k g e l o) h = acting-none F (named_size F) t v o

module _ (F : Format) (s : List ℕ) (at : ℕ) where
  pub plain-layout : (es : List ℕ) (rest : List ℕ → ℕ → Checked) {t : List ℕ} {st : Step} → View F at t st → (plain_size F st ≡ 0 → ⊥) → layout_step s es at st rest ≡ rest es (at + plain_size F st)
  plain-layout es rest (the_end l) h = absurd (h refl)
  plain-layout es rest refused h = absurd (h refl)
  plain-layout es rest (a_handshake k l o) h = absurd (h refl)
  plain-layout es rest (a_data k l o) h = absurd (h refl)
  plain-layout es rest (an_ack k l o) h = refl
  plain-layout es rest (a_have k l o) h = refl
  plain-layout es rest (an_integrity k l o) h = absurd (h refl)
  plain-layout es rest (a_request k l o) h = refl
  plain-layout es rest (a_cancel k l o) h = refl
  plain-layout es rest (a_choke k l) h = refl
  plain-layout es rest (an_unchoke k l) h = refl
  plain-layout es rest (an_empty k g e l o) h = refl

  pub plain-survey : (v : Survey) (rest : ℕ → Survey → Survey) {t : List ℕ} {st : Step} → View F at t st → (plain_size F st ≡ 0 → ⊥)
      → survey_step F st v rest ≡ rest (at + plain_size F st) (acting F (plain_size F st) t v)
  plain-survey v rest (the_end l) h = absurd (h refl)
  plain-survey v rest refused h = absurd (h refl)
  plain-survey v rest (a_handshake k l o) h = absurd (h refl)
  plain-survey v rest (a_data k l o) h = absurd (h refl)
  plain-survey v rest (an_ack k l o) h = ap (rest (at + timed_size F)) (plain-surveyed F at v (an_ack k l o) h)
  plain-survey v rest (a_have k l o) h = ap (rest (at + named_size F)) (plain-surveyed F at v (a_have k l o) h)
  plain-survey v rest (an_integrity k l o) h = absurd (h refl)
  plain-survey v rest (a_request k l o) h = ap (rest (at + named_size F)) (plain-surveyed F at v (a_request k l o) h)
  plain-survey v rest (a_cancel k l o) h = ap (rest (at + named_size F)) (plain-surveyed F at v (a_cancel k l o) h)
  plain-survey v rest (a_choke k l) h = ap (rest (at + 1)) (plain-surveyed F at v (a_choke k l) h)
  plain-survey v rest (an_unchoke k l) h = ap (rest (at + 1)) (plain-surveyed F at v (an_unchoke k l) h)
  plain-survey v rest (an_empty k g e l o) h = ap (rest (at + named_size F)) (plain-surveyed F at v (an_empty k g e l o) h)
