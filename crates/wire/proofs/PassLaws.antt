-- Laws of the layout pass behind the front: the survey of a turn, and the loop. Assumes nothing.
use Prim.Native.Nat.{ℕ, ◌+◌, ◌-◌, ◌<◌, ◌≤◌}
use native.Mathlib.Omega.{arith}
use native.Mathlib.Nat.{zero-add}
use mathlib.Core.Path.{◌≡◌, refl, sym, ap, ◌∙◌}
use mathlib.Core.Logic.{inl, inr}
use mathlib.Core.List.{List, [], ◌∷◌, ◌++◌}
use mathlib.Core.Bool.{Bool, true, false}
use lib.ListN.{length, take, drop, length-drop}
use lib.Seq.{length-take-le}
use lib.Dec.{eqb}
use borrow.Author.Tests.{eqb-true}
use Rattle.base.specs.Pick.{pick}
use Rattle.wire.specs.Bytes.{placed}
use Rattle.wire.specs.Limits.{min_size}
use Rattle.wire.specs.Place.{first_of, last_of}
use Rattle.wire.specs.Read.{step_at}
use Rattle.wire.specs.Layout.{Checked, checked_of, number_of, seen, handshake_layout, layout_step, layout_from, layout_of}
use Rattle.wire.specs.Steps.{no_survey, naming, surveyed, survey_step, survey_from, survey_all}
use Rattle.wire.specs.Steps.{entry_words, turned_of, over, noted, turn_at, Standing, Fronted, check_spec, survey_spec}
use Rattle.wire.specs.declared.message.Options.{Options}
use Rattle.wire.specs.declared.message.Message.TheVariants.{Handshake, Data, Ack, Have, Integrity, Request, Cancel, Choke, Unchoke, Empty}
use Rattle.wire.specs.declared.message.Cursor.{Cursor}
use Rattle.wire.specs.declared.message.Step.{Step}
use Rattle.wire.specs.declared.message.Step.TheVariants.{Read, End, Refused}
use Rattle.wire.specs.Layout.{Layout}
use Rattle.wire.specs.Layout.{Fault, Messages}
use Rattle.wire.specs.declared.survey.Survey.{Survey}
use Rattle.wire.specs.Steps.{Pass}
use Rattle.wire.specs.declared.pass.Front.{Front}
use Rattle.wire.specs.Steps.{Turn}
use Rattle.wire.specs.Steps.{On, Over}
use Rattle.wire.proofs.PlacedLaws.{placed-length, placed-none, placed-then, placed-front}
use Rattle.wire.proofs.ViewLaws.{View, the_end, refused, a_handshake, a_data, an_ack, a_have, an_integrity, a_request, a_cancel, a_choke, an_unchoke, view, an_empty}
use Rattle.wire.proofs.SpanLaws.{step_reaches}
use Rattle.wire.proofs.LayoutLaws.{alone-whole, layout_sized}
use Rattle.wire.proofs.SurveyLaws.{layout-turn, survey-turn, layout-done, survey-done}
use Rattle.wire.proofs.TurnLaws.{same_at, same-survey, same_pass, on_over, words_left, Went, went, ended}
use Rattle.format.specs.declared.Format.{Format}

-- ---- the survey of a turn

-- it goes on
module _ (F : Format) (s room : List ℕ) (used at : ℕ) (v : Survey) (rest : ℕ → Survey → Survey) {next n : ℕ} {w : Survey} {after : List ℕ} where
  onward : (x : ℕ) (y : Survey) (q : List ℕ) {u : ℕ} → turned_of (On next n w) after ≡ turned_of (On x u y) q → rest x y ≡ rest next w
  onward x y q e = rw (same_at e, same-survey e)

  survey-went : (st : Step) → turned_of (On next n w) after ≡ turn_at F s room used at v st → survey_step F st v rest ≡ rest next w
  unfolding noted
  survey-went End e = absurd (on_over e)
  survey-went Refused e = absurd (on_over e)
  survey-went (Read (Handshake a o) c) e = absurd (on_over e)
  survey-went (Read (Data k l x b m) c) e = absurd (on_over e)
  survey-went (Read (Ack f l d) c) e = onward c.at (surveyed F (Ack f l d) v) room e
  survey-went (Read (Have f l) c) e = onward c.at (surveyed F (Have f l) v) room e
  survey-went (Read (Integrity f l h) c) e = by (seen (f + l) (take used room)) e
    where
      by : (b : Bool) → turned_of (On next n w) after ≡ pick b (over (Fault 2) no_survey room) (turned_of (On c.at (used + 2) (naming l v)) (placed room used ((f + l) ∷ h ∷ [])))
          → rest c.at (naming l v) ≡ rest next w
      by true q = absurd (on_over q)
      by false q = onward c.at (naming l v) (placed room used ((f + l) ∷ h ∷ [])) q
  survey-went (Read (Request f l) c) e = onward c.at (surveyed F (Request f l) v) room e
  survey-went (Read (Cancel f l) c) e = onward c.at (surveyed F (Cancel f l) v) room e
  survey-went (Read Choke c) e = onward c.at (surveyed F Choke v) room e
  survey-went (Read Unchoke c) e = onward c.at (surveyed F Unchoke v) room e
  survey-went (Read (Empty k) c) e = onward c.at (surveyed F (Empty k) v) room e

-- the survey that a pass gives, by its layout and what all messages have
abbrev given : Layout → Survey → Survey
given l all = pick (eqb (number_of l) 0) all no_survey

-- a HANDSHAKE: where it passes, it stands alone
handshake-survey : (F : Format) (s : List ℕ) (at : ℕ) (a : ℕ) (o : Options) (c : Cursor) → min_size ≤ length s → step_at F s at ≡ Read (Handshake a o) c
    → given (handshake_layout s at c.at a o) (survey_all F s) ≡ no_survey
handshake-survey F s at a o c low e = by (eqb (number_of (handshake_layout s at c.at a o)) 0) refl
  where
    by : (b : Bool) → eqb (number_of (handshake_layout s at c.at a o)) 0 ≡ b → pick b (survey_all F s) no_survey ≡ no_survey
    by true h =
        let w = alone-whole s at c.at a o (eqb-true _ 0 h) in
        let r : step_at F s min_size ≡ Read (Handshake a o) c = ap (step_at F s) (sym w.0) ∙ e in
        survey-turn F (length s) s min_size no_survey (omega (arith, low))
        ∙ ap (λ (st : Step). survey_step F st no_survey (λ x u. survey_from F (length s - 1) s x u)) r
        ∙ survey-done F (length s - 1) s c.at no_survey (λ z. omega (arith, w.1))
    by false h = refl

-- DATA reaches to the end, so nothing stands behind it
all-behind : (F : Format) (left : ℕ) (s : List ℕ) (v : Survey) (at : ℕ) → length s ≤ at → survey_from F left s at v ≡ v
all-behind F left s v at h = survey-done F left s at v (λ z. h)

-- it ends the pass
module _ (F : Format) (s room : List ℕ) (used at : ℕ) (v : Survey) (left : ℕ) (low : min_size ≤ length s) (so_far : survey_step F (step_at F s at) v (λ x u. survey_from F left s x u) ≡ survey_all F s) {x : Pass} {after : List ℕ} where
  known : (l : Layout) (w : Survey) {q : List ℕ} → turned_of (Over x) after ≡ over l w q → given l (survey_all F s) ≡ w → x.survey ≡ given x.layout (survey_all F s)
  known l w e h = rw (same_pass e) (sym h)

  survey-ended : (st : Step) → step_at F s at ≡ st → View F at (drop at s) st → turned_of (Over x) after ≡ turn_at F s room used at v st → x.survey ≡ given x.layout (survey_all F s)
  unfolding noted
  survey-ended _ g (the_end h) e = known (Messages used) v e (sym so_far ∙ ap (λ (st : Step). survey_step F st v (λ y u. survey_from F left s y u)) g)
  survey-ended _ g refused e = known (Fault 2) no_survey e refl
  survey-ended _ g (a_handshake k h o) e = known _ no_survey e (handshake-survey F s at _ _ _ low g)
  survey-ended _ g (a_data k h o) e =
      known _ _ e
      (sym so_far ∙ ap (λ (st : Step). survey_step F st v (λ y u. survey_from F left s y u)) g ∙ all-behind F left s _ _ (omega (arith, length-drop at s)))
  survey-ended _ g (an_ack k h o) e = absurd (on_over (sym e))
  survey-ended _ g (a_have k h o) e = absurd (on_over (sym e))
  survey-ended _ g (an_integrity k h o) e = by (seen (first_of F (drop at s) + last_of F (drop at s)) (take used room)) _ _ _ _ e
    where
      by : (b : Bool) (y n : ℕ) (w : Survey) (q : List ℕ) → turned_of (Over x) after ≡ pick b (over (Fault 2) no_survey room) (turned_of (On y n w) q) → x.survey ≡ given x.layout (survey_all F s)
      by true y n w q r = known (Fault 2) no_survey r refl
      by false y n w q r = absurd (on_over (sym r))
  survey-ended _ g (a_request k h o) e = absurd (on_over (sym e))
  survey-ended _ g (a_cancel k h o) e = absurd (on_over (sym e))
  survey-ended _ g (a_choke k h) e = absurd (on_over (sym e))
  survey-ended _ g (an_unchoke k h) e = absurd (on_over (sym e))
  survey-ended _ g (an_empty k q h l o) e = absurd (on_over (sym e))

-- ---- the loop

-- the messages left, with the entries in the room so far, give what all give; the entries stand at the room's front
pub record Passing (F : Format) (old s room : List ℕ) (left at used : ℕ) (v : Survey) : Type 0 where
  pub standing : Standing s (length room) at used
  pub same : layout_from F left s (take used room) at ≡ layout_from F (length s) s [] min_size
  pub front : room ≡ placed old 0 (take used room)
  pub so_far : survey_from F left s at v ≡ survey_all F s

-- where the pass begins
pub pass_start : (F : Format) (s room : List ℕ) (f : Front) → Fronted F s f → entry_words ≤ length room → Passing F room s room (length s - f.at) f.at 0 f.survey
pass_start F s room f p roomy =
    record {
      standing = record { low = p.low; high = p.high; roomy = roomy; within = omega arith; spent = omega (arith, p.behind); even = refl };
      same = p.layout;
      front = placed-none room 0;
      so_far = p.survey;
    }

module _ (F : Format) (old s room : List ℕ) (left at used : ℕ) (v : Survey) (P : Passing F old s room left at used v) where
  -- as many entries as the code counts
  entries-length : length (take used room) ≡ used
  entries-length = length-take-le used room (omega (arith, P.standing.within, P.standing.roomy))

  -- a turn that goes on
  pub pass_on : 0 < left → {t : Turn} {next n : ℕ} {w : Survey} {after : List ℕ} → turned_of t after ≡ turn_at F s room used at v (step_at F s at) → t ≡ On next n w
      → Passing F old s after (left - 1) next n w
  pass_on h {t} {next} {n} {w} {after} e g =
      let q : turned_of (On next n w) after ≡ turn_at F s room used at v (step_at F s at) = ap (λ (x : Turn). turned_of x after) (sym g) ∙ e in
      go (went F s room used at (length (drop at s)) v rest (step_at F s at) (step_reaches F at (drop at s)) q)
      (sym (survey-went F s room used at v (λ x u. survey_from F (left - 1) s x u) (step_at F s at) q) ∙ sym (survey-turn F left s at v h) ∙ P.so_far)
    where
      rest : List ℕ → ℕ → Checked
      rest gs x = layout_from F (left - 1) s gs x

      go : Went room used at (length (drop at s)) rest (layout_step s (take used room) at (step_at F s at) rest) next n after → survey_from F (left - 1) s next w ≡ survey_all F s
          → Passing F old s after (left - 1) next n w
      go (inl p) k =
          record {
            standing =
                record {
                  low = P.standing.low;
                  high = P.standing.high;
                  roomy = omega (arith, P.standing.roomy, ap length p.room_is);
                  within = omega (arith, P.standing.within, p.used_is);
                  spent = omega (arith, P.standing.spent, p.used_is, p.forward);
                  even = omega (arith, P.standing.even, p.used_is);
                };
            same = rw (p.used_is, p.room_is) (sym p.goes ∙ sym (layout-turn F left s (take used room) at h) ∙ P.same);
            front = rw (p.used_is, p.room_is) P.front;
            so_far = k;
          }
      go (inr p) j =
          let a : List ℕ = p.node ∷ p.hash ∷ [] in
          let k = words_left s (length room) at used P.standing p.inside in
          let f : take n after ≡ take used room ++ a = rw (p.used_is, p.room_is) (placed-front room used a (omega (arith, k, P.standing.roomy))) in
          record {
            standing =
                record {
                  low = P.standing.low;
                  high = P.standing.high;
                  roomy = omega (arith, P.standing.roomy, placed-length room used a p.room_is);
                  within = omega (arith, k, p.used_is);
                  spent = omega (arith, P.standing.spent, p.used_is, p.forward);
                  even = omega (arith, P.standing.even, p.used_is);
                };
            same = rw f (sym p.goes ∙ sym (layout-turn F left s (take used room) at h) ∙ P.same);
            front = rw f (placed-then old 0 (take used room) a used (zero-add (length (take used room)) ∙ entries-length) P.front p.room_is);
            so_far = j;
          }

  -- the whole layout is what is left
  whole : {l : Layout} → layout_from F left s (take used room) at ≡ checked_of l (take used room) → layout_of F s ≡ checked_of l (take used room)
  whole e = layout_sized F s P.standing.low P.standing.high ∙ sym P.same ∙ e

  -- a layout with the room, and a survey, that are those of the datagram
  found : {l : Layout} {w : Survey} {after : List ℕ} → layout_of F s ≡ checked_of l (take used room) → after ≡ room → w ≡ given l (survey_all F s)
      → (checked_of l after ≡ check_spec F old s) × (w ≡ survey_spec F s)
  unfolding check_spec survey_spec
  found {l} {w} {after} e r h = rw e (ap (checked_of l) (r ∙ P.front), h)

  -- a turn that ends the pass
  pub pass-over : 0 < left → {t : Turn} {x : Pass} {after : List ℕ} → turned_of t after ≡ turn_at F s room used at v (step_at F s at) → t ≡ Over x
      → (checked_of x.layout after ≡ check_spec F old s) × (x.survey ≡ survey_spec F s)
  pass-over h {x = x} {after = after} e g =
      let q : turned_of (Over x) after ≡ turn_at F s room used at v (step_at F s at) = ap (λ (y : Turn). turned_of y after) (sym g) ∙ e in
      let o = ended F s room used at v (λ gs y. layout_from F (left - 1) s gs y) (step_at F s at) entries-length q in
      found (whole (layout-turn F left s (take used room) at h ∙ o.0)) o.1
      (survey-ended F s room used at v (left - 1) P.standing.low (sym (survey-turn F left s at v h) ∙ P.so_far) (step_at F s at) refl (view F at (drop at s)) q)

  -- no turn is left
  pub pass-out : left ≤ 0 → (checked_of (Messages used) room ≡ check_spec F old s) × (v ≡ survey_spec F s)
  pass-out h =
      found (whole (layout-done F left s (take used room) at used entries-length (λ z. absurd (omega arith)))) refl
      (sym (survey-done F left s at v (λ z. absurd (omega arith))) ∙ P.so_far)
