-- Laws of the plain messages at the front of a datagram: as many turns as there are bytes left are enough, and more change
-- nothing; so a plain message more leaves what is left to the rest. Assumes nothing.
use Prim.Native.Nat.{ℕ, zero, suc, ◌+◌, ◌-◌, ◌<◌, ◌≤◌}
use native.Mathlib.Omega.{arith}
use mathlib.Core.Path.{◌≡◌, refl, sym, ap, ◌∙◌}
use mathlib.Core.List.{List, [], ◌∷◌, ◌++◌}
use lib.ListN.{length, drop}
use Rattle.base.specs.Pick.{pick}
use Rattle.format.specs.declared.Format.{Format}
use Rattle.wire.specs.Limits.{min_size, max_size}
use Rattle.wire.specs.Read.{step_at}
use Rattle.wire.specs.Layout.{Fault, Messages, Checked, checked_of, seen, layout_step, layout_from, layout_of}
use Rattle.wire.specs.Steps.{plain_size, no_survey, acting, surveyed, survey_step, survey_from, survey_all, Fronted}
use Rattle.wire.specs.declared.message.Message.TheVariants.{Handshake, Data, Ack, Have, Integrity, Request, Cancel, Choke, Unchoke, Empty}
use Rattle.wire.specs.declared.message.Step.{Step}
use Rattle.wire.specs.declared.message.Step.TheVariants.{Read, End, Refused}
use Rattle.wire.specs.declared.survey.Survey.{Survey}
use Rattle.wire.specs.declared.pass.Front.{Front}
use Rattle.wire.proofs.LayoutLaws.{layout_sized}
use Rattle.wire.proofs.PlainLaws.{size-inside}
use Rattle.wire.proofs.SurveyLaws.{layout-turn, survey-turn, layout-done, survey-done, plain-layout, plain-survey}
use Rattle.wire.proofs.ViewLaws.{View, the_end, refused, a_handshake, a_data, an_ack, a_have, an_integrity, a_request, a_cancel, a_choke, an_unchoke, view, an_empty}

-- ---- enough turns

-- a message moves on
abbrev Ahead : ℕ → Step → Type 0
Ahead at (Read m next) = at < next.at
Ahead at End = Unit {0}
Ahead at Refused = Unit {0}

ahead : (F : Format) (at : ℕ) (t : List ℕ) (st : Step) → View F at t st → Ahead at st
ahead F at t _ (the_end l) = tt
ahead F at t _ refused = tt
ahead F at t _ (a_handshake k l o) = omega arith
ahead F at t _ (a_data k l o) = omega arith
ahead F at t _ (an_ack k l o) = omega arith
ahead F at t _ (a_have k l o) = omega arith
ahead F at t _ (an_integrity k l o) = omega arith
ahead F at t _ (a_request k l o) = omega arith
ahead F at t _ (a_cancel k l o) = omega arith
ahead F at t _ (a_choke k l) = omega arith
ahead F at t _ (an_unchoke k l) = omega arith
ahead F at t _ (an_empty k g e l o) = omega arith

module _ (s es : List ℕ) (at : ℕ) (g h : List ℕ → ℕ → Checked) (k : (gs : List ℕ) (x : ℕ) → at < x → g gs x ≡ h gs x) where
  layout-alike : (st : Step) → Ahead at st → layout_step s es at st g ≡ layout_step s es at st h
  layout-alike End a = refl
  layout-alike Refused a = refl
  layout-alike (Read (Handshake b o) c) a = refl
  layout-alike (Read (Data f l x b n) c) a = refl
  layout-alike (Read (Integrity f l d) c) a = ap (λ (z : Checked). pick (seen (f + l) es) (checked_of (Fault 2) es) z) (k (es ++ ((f + l) ∷ d ∷ [])) c.at a)
  layout-alike (Read (Ack f l d) c) a = k es c.at a
  layout-alike (Read (Have f l) c) a = k es c.at a
  layout-alike (Read (Request f l) c) a = k es c.at a
  layout-alike (Read (Cancel f l) c) a = k es c.at a
  layout-alike (Read Choke c) a = k es c.at a
  layout-alike (Read Unchoke c) a = k es c.at a
  layout-alike (Read (Empty y) c) a = k es c.at a

layout-enough : (F : Format) (n m : ℕ) (s es : List ℕ) (at : ℕ) → length s ≤ at + n → length s ≤ at + m → layout_from F n s es at ≡ layout_from F m s es at
unfolding layout_from
layout-enough F zero m s es at h k = layout-done F zero s es at (length es) refl (λ z. omega arith) ∙ sym (layout-done F m s es at (length es) refl (λ z. omega arith))
layout-enough F (suc n) zero s es at h k = layout-done F (suc n) s es at (length es) refl (λ z. omega arith) ∙ sym (layout-done F zero s es at (length es) refl (λ z. omega arith))
layout-enough F (suc n) (suc m) s es at h k =
    layout-alike s es at (λ gs x. layout_from F n s gs x) (λ gs x. layout_from F m s gs x) (λ gs x a. layout-enough F n m s gs x (omega arith) (omega arith))
    (step_at F s at) (ahead F at (drop at s) (step_at F s at) (view F at (drop at s)))

survey-alike : (F : Format) (v : Survey) (at : ℕ) (g h : ℕ → Survey → Survey) → ((x : ℕ) (w : Survey) → at < x → g x w ≡ h x w) → (st : Step) → Ahead at st → survey_step F st v g ≡ survey_step F st v h
survey-alike F v at g h k End a = refl
survey-alike F v at g h k Refused a = refl
survey-alike F v at g h k (Read m c) a = k c.at (surveyed F m v) a

survey-enough : (F : Format) (n m : ℕ) (s : List ℕ) (at : ℕ) (v : Survey) → length s ≤ at + n → length s ≤ at + m → survey_from F n s at v ≡ survey_from F m s at v
unfolding survey_from
survey-enough F zero m s at v h k = sym (survey-done F m s at v (λ z. omega arith))
survey-enough F (suc n) zero s at v h k = survey-done F (suc n) s at v (λ z. omega arith)
survey-enough F (suc n) (suc m) s at v h k =
    survey-alike F v at (λ x w. survey_from F n s x w) (λ x w. survey_from F m s x w) (λ x w a. survey-enough F n m s x w (omega arith) (omega arith))
    (step_at F s at) (ahead F at (drop at s) (step_at F s at) (view F at (drop at s)))

-- ---- the front

abbrev pub front_of : (at : ℕ) → Survey → Front
front_of at v = record { at = at; survey = v }

-- where it begins
pub front-start : (F : Format) (s : List ℕ) → min_size ≤ length s → length s ≤ max_size → {v : Survey} → v ≡ no_survey → Fronted F s (front_of min_size v)
front-start F s low high e =
    record {
      low = low;
      high = high;
      behind = omega arith;
      layout = layout-enough F (length s - min_size) (length s) s [] min_size (omega arith) (omega arith);
      survey = survey-enough F (length s - min_size) (length s) s min_size _ (omega arith) (omega arith) ∙ ap (survey_from F (length s) s min_size) e;
    }

-- a plain message more
pub front_on : (F : Format) (s : List ℕ) (at : ℕ) (v : Survey) → Fronted F s (front_of at v) → {n : ℕ} → n ≡ plain_size F (step_at F s at) → (n ≡ 0 → ⊥)
    → {w : Survey} → w ≡ acting F n (drop at s) v → Fronted F s (front_of (at + n) w)
front_on F s at v f {n} e g {w} p =
    let i : at + n ≤ length s = size-inside F s at e g in
    let h : 0 < length s - at = omega (arith, i, g) in
    let z : plain_size F (step_at F s at) ≡ 0 → ⊥ = λ q. g (e ∙ q) in
    let b : List ℕ → ℕ → Checked = λ gs x. layout_from F (length s - at - 1) s gs x in
    let c : ℕ → Survey → Survey = λ x u. survey_from F (length s - at - 1) s x u in
    let l : layout_from F (length s - at - 1) s [] (at + n) ≡ layout_from F (length s) s [] min_size =
    rw (e, ← plain-layout F s at [] b (view F at (drop at s)) z, ← layout-turn F (length s - at) s [] at h) f.layout in
    let r : survey_from F (length s - at - 1) s (at + n) w ≡ survey_all F s =
    rw (p, e, ← plain-survey F s at v c (view F at (drop at s)) z, ← survey-turn F (length s - at) s at v h) f.survey in
    record {
      low = f.low;
      high = f.high;
      behind = omega (arith, f.behind);
      layout = layout-enough F (length s - (at + n)) (length s - at - 1) s [] (at + n) (omega arith) (omega (arith, g)) ∙ l;
      survey = survey-enough F (length s - (at + n)) (length s - at - 1) s (at + n) w (omega arith) (omega (arith, g)) ∙ r;
    }

-- none but plain messages
module _ (F : Format) (s : List ℕ) (f : Front) (p : Fronted F s f) (e : f.at ≡ length s) where
  pub front-layout : layout_of F s ≡ checked_of (Messages 0) []
  front-layout = layout_sized F s p.low p.high ∙ sym p.layout ∙ layout-done F (length s - f.at) s [] f.at 0 refl (λ h. omega (arith, e))

  pub front-survey : survey_all F s ≡ f.survey
  front-survey = sym p.survey ∙ survey-done F (length s - f.at) s f.at f.survey (λ h. omega (arith, e))
