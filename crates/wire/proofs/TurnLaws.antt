-- Laws of one turn of the layout pass behind the front: it goes on or ends the pass as the definition has it, and the room
-- suffices. Assumes nothing.
use Prim.Native.Nat.{ℕ, ◌+◌, ◌-◌, ◌≤◌}
use native.Mathlib.Omega.{arith}
use mathlib.Core.Path.{◌≡◌, refl, sym, ap, ◌∙◌}
use mathlib.Core.Logic.{◌⊎◌, inl, inr}
use mathlib.Core.List.{List, [], ◌∷◌, ◌++◌}
use mathlib.Core.Bool.{Bool, true, false, true≢false}
use lib.ListN.{length, take, drop, length-drop}
use Rattle.base.specs.Pick.{pick}
use Rattle.wire.specs.Bytes.{placed}
use Rattle.wire.specs.Place.{first_of, last_of, integrity_size, named_size}
use Rattle.wire.specs.Read.{step_at, whole}
use Rattle.wire.specs.Layout.{Checked, checked_of, seen, handshake_layout, layout_step}
use Rattle.wire.specs.Steps.{plain_size, is_node, no_survey, naming, acting, surveyed, least_integrity}
use Rattle.wire.specs.Steps.{entry_words, Turned, turned_of, over, noted, turn_at, Standing}
use Rattle.wire.specs.declared.message.Message.TheVariants.{Handshake, Data, Ack, Have, Integrity, Request, Cancel, Choke, Unchoke, Empty}
use Rattle.wire.specs.declared.message.Step.{Step}
use Rattle.wire.specs.declared.message.Step.TheVariants.{Read, End, Refused}
use Rattle.wire.specs.Layout.{Layout}
use Rattle.wire.specs.Layout.{Fault, Messages, MessagesAndData}
use Rattle.wire.specs.declared.survey.Survey.{Survey}
use Rattle.wire.specs.Steps.{Pass}
use Rattle.wire.specs.Steps.{Turn}
use Rattle.wire.specs.Steps.{On, Over}
use Rattle.wire.proofs.BytesLaws.{part}
use Rattle.wire.proofs.ViewLaws.{View, the_end, refused, a_handshake, a_data, an_ack, a_have, an_integrity, a_request, a_cancel, a_choke, an_unchoke, view, an_empty}
use Rattle.wire.proofs.SpanLaws.{Reaches}
use Rattle.format.specs.declared.Format.{Format}
use Rattle.wire.proofs.SurveyLaws.{plain-surveyed}

-- ---- a turn by what stands there, as the code has it

goes : {x used : ℕ} {y z : Survey} {room : List ℕ} → y ≡ z → turned_of (On x used z) room ≡ turned_of (On x used y) room
goes e = rw e

module _ (F : Format) (s room : List ℕ) (used at : ℕ) (v : Survey) {t : List ℕ} where
  by-plain : {st : Step} → View F at t st → (plain_size F st ≡ 0 → ⊥) → turned_of (On (at + plain_size F st) used (acting F (plain_size F st) t v)) room ≡ turn_at F s room used at v st
  by-plain (the_end l) h = absurd (h refl)
  by-plain refused h = absurd (h refl)
  by-plain (a_handshake k l o) h = absurd (h refl)
  by-plain (a_data k l o) h = absurd (h refl)
  by-plain (an_ack k l o) h = goes (plain-surveyed F at v (an_ack k l o) h)
  by-plain (a_have k l o) h = goes (plain-surveyed F at v (a_have k l o) h)
  by-plain (an_integrity k l o) h = absurd (h refl)
  by-plain (a_request k l o) h = goes (plain-surveyed F at v (a_request k l o) h)
  by-plain (a_cancel k l o) h = goes (plain-surveyed F at v (a_cancel k l o) h)
  by-plain (a_choke k l) h = goes (plain-surveyed F at v (a_choke k l) h)
  by-plain (an_unchoke k l) h = goes (plain-surveyed F at v (an_unchoke k l) h)
  by-plain (an_empty k g e l o) h = goes (plain-surveyed F at v (an_empty k g e l o) h)

  by-node : {st : Step} → View F at t st → is_node st ≡ true → noted room used (naming (last_of F t) v) (first_of F t + last_of F t) (at + named_size F) (at + integrity_size F) ≡ turn_at F s room used at v st
  by-node (the_end l) h = absurd (true≢false (sym h))
  by-node refused h = absurd (true≢false (sym h))
  by-node (a_handshake k l o) h = absurd (true≢false (sym h))
  by-node (a_data k l o) h = absurd (true≢false (sym h))
  by-node (an_ack k l o) h = absurd (true≢false (sym h))
  by-node (a_have k l o) h = absurd (true≢false (sym h))
  by-node (an_integrity k l o) h = refl
  by-node (a_request k l o) h = absurd (true≢false (sym h))
  by-node (a_cancel k l o) h = absurd (true≢false (sym h))
  by-node (a_choke k l) h = absurd (true≢false (sym h))
  by-node (an_unchoke k l) h = absurd (true≢false (sym h))
  by-node (an_empty k g e l o) h = absurd (true≢false (sym h))

module _ (F : Format) (s room : List ℕ) (used at : ℕ) (v : Survey) where
  -- a plain message
  pub turn-plain : {n : ℕ} → n ≡ plain_size F (step_at F s at) → (n ≡ 0 → ⊥) → {w : Survey} → w ≡ acting F n (drop at s) v
      → turned_of (On (at + n) used w) room ≡ turn_at F s room used at v (step_at F s at)
  turn-plain e h p = rw (p, e) (by-plain F s room used at v (view F at (drop at s)) (λ q. h (e ∙ q)))

  -- INTEGRITY
  pub turn-node : {b : Bool} → b ≡ is_node (step_at F s at) → b ≡ true → {l : ℕ} → l ≡ last_of F (take (length s - at) (drop at s))
      → {x : ℕ} → x ≡ first_of F (take (length s - at) (drop at s)) + last_of F (take (length s - at) (drop at s)) → {w : Survey} → w ≡ naming l v
      → {n : ℕ} → n ≡ named_size F → {t : Turned} → t ≡ noted room used w x (at + n) (at + (n + 32)) → t ≡ turn_at F s room used at v (step_at F s at)
  turn-node e h {l} le {x} xe ew ne et =
      let p : l ≡ last_of F (drop at s) = rw part at le in
      let q : x ≡ first_of F (drop at s) + last_of F (drop at s) = rw part at xe in
      et ∙ rw (ne, ew, p, q) (by-node F s room used at v (view F at (drop at s)) (sym e ∙ h))

-- ---- two turns that are equal

same_turn : {t w : Turn} {r q : List ℕ} → turned_of t r ≡ turned_of w q → t ≡ w
same_turn e = ap (λ (x : Turned). x.turn) e

same-room : {t w : Turn} {r q : List ℕ} → turned_of t r ≡ turned_of w q → r ≡ q
same-room e = ap (λ (x : Turned). x.room) e

pub same_at : {a b u w : ℕ} {x y : Survey} {r q : List ℕ} → turned_of (On a u x) r ≡ turned_of (On b w y) q → a ≡ b
same_at e = let t = same_turn e in cc

same-used : {a b u w : ℕ} {x y : Survey} {r q : List ℕ} → turned_of (On a u x) r ≡ turned_of (On b w y) q → u ≡ w
same-used e = let t = same_turn e in cc

pub same-survey : {a b u w : ℕ} {x y : Survey} {r q : List ℕ} → turned_of (On a u x) r ≡ turned_of (On b w y) q → x ≡ y
same-survey e = let t = same_turn e in cc

pub same_pass : {x y : Pass} {r q : List ℕ} → turned_of (Over x) r ≡ turned_of (Over y) q → x ≡ y
same_pass e = let t = same_turn e in cc

pub on_over : {a u : ℕ} {x : Survey} {y : Pass} {r q : List ℕ} → turned_of (On a u x) r ≡ turned_of (Over y) q → ⊥
on_over e = let t = same_turn e in let z : ◌≡◌ {A = ℕ} 0 1 = cc in omega arith

-- ---- the room suffices

-- two words are left where an INTEGRITY message is
pub words_left : (s : List ℕ) (size at used : ℕ) → Standing s size at used → least_integrity ≤ length (drop at s) → used + 2 ≤ entry_words
words_left s size at used p h = omega (arith, p.high, p.within, p.spent, p.even, h, length-drop at s)

-- an INTEGRITY message has room for its node
pub note-room : (s : List ℕ) (size at used : ℕ) → Standing s size at used → least_integrity ≤ length (drop at s) → used + 2 ≤ size
note-room s size at used p h = omega (arith, p.roomy, words_left s size at used p h)

-- ---- a turn that goes on, where `rest` gives what comes after it

-- nothing was stored
pub record Plain (room : List ℕ) (used at : ℕ) (rest : List ℕ → ℕ → Checked) (whole : Checked) (next n : ℕ) (after : List ℕ) : Type 0 where
  pub forward : at ≤ next
  pub used_is : n ≡ used
  pub room_is : after ≡ room
  pub goes : whole ≡ rest (take used room) next

-- a node was stored, of a message with 37 at least of the `size` bytes left
pub record Stored (room : List ℕ) (used at size : ℕ) (rest : List ℕ → ℕ → Checked) (whole : Checked) (next n : ℕ) (after : List ℕ) : Type 0 where
  pub node : ℕ
  pub hash : ℕ
  pub inside : least_integrity ≤ size
  pub forward : at + least_integrity ≤ next
  pub used_is : n ≡ used + 2
  pub room_is : after ≡ placed room used (node ∷ hash ∷ [])
  pub goes : whole ≡ rest (take used room ++ (node ∷ hash ∷ [])) next

abbrev pub Went : List ℕ → ℕ → ℕ → ℕ → (List ℕ → ℕ → Checked) → Checked → ℕ → ℕ → List ℕ → Type 0
Went room used at size rest whole next n after = Plain room used at rest whole next n after ⊎ Stored room used at size rest whole next n after

module _ (F : Format) (s room : List ℕ) (used at size : ℕ) (v : Survey) (rest : List ℕ → ℕ → Checked) {next n : ℕ} {w : Survey} {after : List ℕ} where
  -- a message of which nothing is stored
  plain : (x : ℕ) (y : Survey) → at ≤ x → turned_of (On next n w) after ≡ turned_of (On x used y) room → Went room used at size rest (rest (take used room) x) next n after
  plain x y h e = inl (record { forward = omega (arith, same_at e); used_is = same-used e; room_is = same-room e; goes = rw (same_at e) })

  -- an INTEGRITY message
  stored : (x : ℕ) (y : Survey) (node hash : ℕ) → least_integrity ≤ size → at + least_integrity ≤ x → turned_of (On next n w) after ≡ noted room used y node hash x
      → Went room used at size rest (pick (seen node (take used room)) (checked_of (Fault 2) (take used room)) (rest (take used room ++ (node ∷ hash ∷ [])) x)) next n after
  unfolding noted
  stored x y node hash k h = by (seen node (take used room))
    where
      by : (b : Bool) → turned_of (On next n w) after ≡ pick b (over (Fault 2) no_survey room) (turned_of (On x (used + 2) y) (placed room used (node ∷ hash ∷ [])))
          → Went room used at size rest (pick b (checked_of (Fault 2) (take used room)) (rest (take used room ++ (node ∷ hash ∷ [])) x)) next n after
      by true e = absurd (on_over e)
      by false e = inr (record { node = node; hash = hash; inside = k; forward = omega (arith, same_at e); used_is = same-used e; room_is = same-room e; goes = rw (same_at e) })

  -- any step
  pub went : (st : Step) → Reaches at size st → turned_of (On next n w) after ≡ turn_at F s room used at v st
      → Went room used at size rest (layout_step s (take used room) at st rest) next n after
  went End r e = absurd (on_over e)
  went Refused r e = absurd (on_over e)
  went (Read (Handshake a o) c) r e = absurd (on_over e)
  went (Read (Data k l x b m) c) r e = absurd (on_over e)
  went (Read (Ack f l d) c) r e = plain c.at (surveyed F (Ack f l d) v) (omega (arith, r.forward)) e
  went (Read (Have f l) c) r e = plain c.at (surveyed F (Have f l) v) (omega (arith, r.forward)) e
  went (Read (Integrity f l h) c) r e = stored c.at (naming l v) (f + l) h r.inside r.forward e
  went (Read (Request f l) c) r e = plain c.at (surveyed F (Request f l) v) (omega (arith, r.forward)) e
  went (Read (Cancel f l) c) r e = plain c.at (surveyed F (Cancel f l) v) (omega (arith, r.forward)) e
  went (Read Choke c) r e = plain c.at (surveyed F Choke v) (omega (arith, r.forward)) e
  went (Read Unchoke c) r e = plain c.at (surveyed F Unchoke v) (omega (arith, r.forward)) e
  went (Read (Empty k) c) r e = plain c.at (surveyed F (Empty k) v) (omega (arith, r.forward)) e

-- ---- a turn that ends the pass leaves the room

abbrev pub Ended : List ℕ → ℕ → Checked → Pass → List ℕ → Type 0
Ended room used whole x after = (whole ≡ checked_of x.layout (take used room)) × (after ≡ room)

module _ (F : Format) (s room : List ℕ) (used at : ℕ) (v : Survey) (rest : List ℕ → ℕ → Checked) {x : Pass} {after : List ℕ} where
  -- the layout that the turn gives
  ends : (k : Layout) (w : Survey) → turned_of (Over x) after ≡ over k w room → Ended room used (checked_of k (take used room)) x after
  ends k w e = (ap (λ (y : Pass). checked_of y.layout (take used room)) (sym (same_pass e)), same-room e)

  -- any step
  pub ended : (st : Step) → length (take used room) ≡ used → turned_of (Over x) after ≡ turn_at F s room used at v st → Ended room used (layout_step s (take used room) at st rest) x after
  unfolding noted
  ended End k e = rw k (ends (Messages used) v e)
  ended Refused k e = ends (Fault 2) no_survey e
  ended (Read (Handshake a o) c) k e = ends (handshake_layout s at c.at a o) no_survey e
  ended (Read (Data d l y b m) c) k e = rw k (ends (MessagesAndData d y b m used) (naming l v) e)
  ended (Read (Ack f g d) c) k e = absurd (on_over (sym e))
  ended (Read (Have f g) c) k e = absurd (on_over (sym e))
  ended (Read (Integrity f g h) c) k e = by (seen (f + g) (take used room)) e
    where
      by : (b : Bool) → turned_of (Over x) after ≡ pick b (over (Fault 2) no_survey room) (turned_of (On c.at (used + 2) (naming g v)) (placed room used ((f + g) ∷ h ∷ [])))
          → Ended room used (pick b (checked_of (Fault 2) (take used room)) (rest (take used room ++ ((f + g) ∷ h ∷ [])) c.at)) x after
      by true q = ends (Fault 2) no_survey q
      by false q = absurd (on_over (sym q))
  ended (Read (Request f g) c) k e = absurd (on_over (sym e))
  ended (Read (Cancel f g) c) k e = absurd (on_over (sym e))
  ended (Read Choke c) k e = absurd (on_over (sym e))
  ended (Read Unchoke c) k e = absurd (on_over (sym e))
  ended (Read (Empty j) c) k e = absurd (on_over (sym e))
