-- A datagram that is lengthened: what the layout checks give for it, by what they give for the datagram so far. Assumes
-- nothing.
use Prim.Native.Nat.{ℕ, zero, suc, ◌+◌, ◌-◌, ◌<◌, ◌≤◌}
use native.Mathlib.Omega.{arith}
use mathlib.Core.Path.{◌≡◌, refl, sym, ap, ◌∙◌}
use mathlib.Core.List.{List, [], ◌∷◌, ◌++◌}
use mathlib.Core.Bool.{Bool, true, false}
use lib.ListN.{length, get_or, drop, length-append, length-drop}
use lib.Seq.{drop-append-le}
use lib.Dec.{eqb}
use borrow.Author.Tests.{le-ltb, eq-eqb, ne_eqb}
use Rattle.base.specs.Pick.{pick}
use Rattle.wire.specs.Bytes.{be32}
use Rattle.wire.specs.Limits.{min_size, max_size}
use Rattle.wire.specs.Place.{first_of, last_of, integrity_size, is_special, named_size, timed_size}
use Rattle.wire.specs.Options.{options_size}
use Rattle.wire.specs.Read.{kind_of, step_of, step_at}
use Rattle.wire.specs.Layout.{Checked, checked_of, number_of, seen, handshake_fault, or_fault, handshake_layout, layout_step, layout_from, layout_of}
use Rattle.wire.specs.declared.message.Options.{Options}
use Rattle.wire.specs.declared.message.Step.{Step}
use Rattle.wire.specs.declared.message.Step.TheVariants.{End, Refused}
use Rattle.wire.specs.Layout.{Layout}
use Rattle.wire.specs.Layout.{Fault, HandshakeAlone, Messages, MessagesAndData}
use Rattle.wire.proofs.ViewLaws.{end_is, handshake-is, data_is, View, the_end, refused, a_handshake, a_data, an_ack, a_have, an_integrity, a_request, a_cancel, a_choke, an_unchoke, view, an_empty}
use Rattle.wire.proofs.LocalLaws.{Plain, step_local, byte-local, first-local, last-local, special-local}
use Rattle.wire.proofs.BehindLaws.{options_local, options_fit}
use Rattle.format.specs.declared.Format.{Format}

-- ---- a pass with turns enough gives the same with more

-- what is behind a message may be given in two ways
module _ (F : Format) (s es : List ℕ) (at : ℕ) (t : List ℕ) (f g : List ℕ → ℕ → Checked)
    (same : (gs : List ℕ) (next : ℕ) → at < next → next ≤ at + length t → f gs next ≡ g gs next) where
  pub step_same : (st : Step) → View F at t st → layout_step s es at st f ≡ layout_step s es at st g
  step_same End (the_end h) = refl
  step_same Refused refused = refl
  step_same _ (a_handshake e l o) = refl
  step_same _ (a_data e l o) = refl
  step_same _ (an_ack e l o) = same es (at + timed_size F) (omega arith) (omega arith)
  step_same _ (a_have e l o) = same es (at + named_size F) (omega arith) (omega arith)
  step_same _ (an_integrity e l o) =
      ap (λ (c : Checked). pick (seen (first_of F t + last_of F t) es) (checked_of (Fault 2) es) c)
      (same (es ++ ((first_of F t + last_of F t) ∷ (at + named_size F) ∷ [])) (at + integrity_size F) (omega arith) (omega arith))
  step_same _ (a_request e l o) = same es (at + named_size F) (omega arith) (omega arith)
  step_same _ (a_cancel e l o) = same es (at + named_size F) (omega arith) (omega arith)
  step_same _ (a_choke e l) = same es (at + 1) (omega arith) (omega arith)
  step_same _ (an_unchoke e l) = same es (at + 1) (omega arith) (omega arith)
  step_same _ (an_empty k h e l o) = same es (at + named_size F) (omega arith) (omega arith)

-- one turn
pub layout-suc : (F : Format) (n : ℕ) (s es : List ℕ) (at : ℕ) → layout_from F (suc n) s es at ≡ layout_step s es at (step_at F s at) (λ gs next. layout_from F n s gs next)
unfolding layout_from
layout-suc F n s es at = refl

-- at the end nothing is left to read
pub over : (F : Format) (n : ℕ) (s es : List ℕ) (at : ℕ) → length s ≤ at → layout_from F n s es at ≡ checked_of (Messages (length es)) es
unfolding layout_from
over F zero s es at h = refl
over F (suc n) s es at h = ap (λ (st : Step). layout_step s es at st (λ gs next. layout_from F n s gs next)) (end_is F at (drop at s) (omega (arith, length-drop at s)))

pub turns : (F : Format) (n m : ℕ) (s es : List ℕ) (at : ℕ) → length s < at + n → length s < at + m → layout_from F n s es at ≡ layout_from F m s es at
unfolding layout_from
turns F zero m s es at h k = sym (over F m s es at (omega arith))
turns F (suc n) zero s es at h k = over F (suc n) s es at (omega arith)
turns F (suc n) (suc m) s es at h k =
    step_same F s es at (drop at s) (λ gs next. layout_from F n s gs next) (λ gs next. layout_from F m s gs next)
    (λ gs next lo hi. turns F n m s gs next (omega arith) (omega arith)) (step_at F s at) (view F at (drop at s))

-- ---- the datagram so far p, and the bytes b behind it

-- What the checks give for both together, c, by what they gave for p.
abbrev pub Extended : (F : Format) → List ℕ → List ℕ → Layout → List ℕ → Checked → Type 0
Extended F p b (Fault n) gs c = Unit {0}
Extended F p b (HandshakeAlone a o) gs c = 0 < length b → c.layout ≡ Fault 3
Extended F p b (Messages k) gs c = (m : ℕ) → length b < m → c ≡ layout_from F m (p ++ b) gs (length p)
Extended F p b (MessagesAndData x y z u k) gs c = number_of c.layout ≡ 0

-- a HANDSHAKE with a byte behind it
behind-handshake : (s : List ℕ) (at next a : ℕ) (o : Options) → (next ≡ length s → ⊥) → handshake_layout s at next a o ≡ Fault 3
unfolding handshake_layout
behind-handshake s at next a o h = by (eqb at min_size)
  where
    by : (x : Bool) → or_fault (pick x (pick (eqb next (length s)) (handshake_fault (be32 s 0) a o) 3) 3) (HandshakeAlone a o) ≡ Fault 3
    by true = rw (ne_eqb next (length s) h)
    by false = refl

-- a HANDSHAKE in the datagram so far
alone : (F : Format) (p b gs : List ℕ) (at next a : ℕ) (o : Options) (c : Checked) → (0 < length b → c.layout ≡ Fault 3) → Extended F p b (handshake_layout p at next a o) gs c
unfolding handshake_layout
alone F p b gs at next a o c h = by (pick (eqb at min_size) (pick (eqb next (length p)) (handshake_fault (be32 p 0) a o) 3) 3)
  where
    by : (n : ℕ) → Extended F p b (or_fault n (HandshakeAlone a o)) gs c
    by zero = h
    by (suc n) = tt

module _ (F : Format) (p b es : List ℕ) (at : ℕ) (t : List ℕ) (here : length p ≡ at + length t) (f g : List ℕ → ℕ → Checked)
    (rest : (gs : List ℕ) (next : ℕ) → at < next → next ≤ at + length t → Extended F p b (f gs next).layout (f gs next).entries (g gs next)) where
  -- a step of both together, by the step of the datagram so far
  abbrev Step-extended : Step → Step → Type 0
  Step-extended st su = Extended F p b (layout_step p es at st f).layout (layout_step p es at st f).entries (layout_step (p ++ b) es at su g)

  plain : (st : Step) → View F at t st → Plain st → Step-extended st st → Step-extended st (step_of F at (t ++ b))
  plain st v q x = rw (step_local F at t b st v q) x

  unseen : (x : Bool) (gs : List ℕ) (c d : Checked) → Extended F p b c.layout c.entries d
      → Extended F p b (pick x (checked_of (Fault 2) gs) c).layout (pick x (checked_of (Fault 2) gs) c).entries (pick x (checked_of (Fault 2) gs) d)
  unseen true gs c d h = tt
  unseen false gs c d h = h

  behind : get_or t 0 0 ≡ 0 → 5 ≤ length t → (options_size (drop 5 t) ≡ 0 → ⊥) → 0 < length b → (layout_step (p ++ b) es at (step_of F at (t ++ b)) g).layout ≡ Fault 3
  unfolding options_size
  behind e l o h =
      let d : drop 5 (t ++ b) ≡ drop 5 t ++ b = drop-append-le 5 t b l in
      let same : options_size (drop 5 (t ++ b)) ≡ options_size (drop 5 t) = ap options_size d ∙ options_local 11 0 (drop 5 t) b 0 o in
      let fit = options_fit 11 0 (drop 5 t) 0 in
      let less : options_size (drop 5 t) ≤ length t - 5 = omega (arith, length-drop 5 t) in
      rw (handshake-is F at (t ++ b) (byte-local t b 0 (omega arith) ∙ e) (omega (arith, length-append t b)) (λ z. o (sym same ∙ z)))
      (behind-handshake (p ++ b) at _ _ _ (λ z. omega (arith, same, less, length-append p b, z)))

  with-data : get_or t 0 0 ≡ 1 → timed_size F ≤ length t → (is_special F t ≡ false) × (first_of F t ≡ last_of F t)
      → number_of (layout_step (p ++ b) es at (step_of F at (t ++ b)) g).layout ≡ 0
  with-data e l o =
      let h : named_size F ≤ length t = omega arith in
      let one : first_of F (t ++ b) ≡ last_of F (t ++ b) = first-local F t b h ∙ o.1 ∙ sym (last-local F t b h) in
      rw (
        data_is F at (t ++ b) (byte-local t b 0 (omega arith) ∙ e) (omega (arith, length-append t b)),
        special-local F t b h,
        o.0,
        eq-eqb (first_of F (t ++ b)) (last_of F (t ++ b)) one,
      )

  pub step-extended : (st : Step) → View F at t st
      → (length t < 1 → (m : ℕ) → length b < m → layout_step (p ++ b) es at (step_of F at (t ++ b)) g ≡ layout_from F m (p ++ b) es (length p))
      → Step-extended st (step_of F at (t ++ b))
  step-extended End (the_end h) on = on h
  step-extended Refused refused on = tt
  step-extended _ (a_handshake e l o) on =
      alone F p b es at (at + 5 + options_size (drop 5 t)) (be32 t 1) (kind_of F (at + 5) (drop 5 t)) (layout_step (p ++ b) es at (step_of F at (t ++ b)) g) (behind e l o)
  step-extended _ (a_data e l o) on = with-data e l o
  step-extended _ (an_ack e l o) on = plain _ (an_ack e l o) tt (rest es (at + timed_size F) (omega arith) (omega arith))
  step-extended _ (a_have e l o) on = plain _ (a_have e l o) tt (rest es (at + named_size F) (omega arith) (omega arith))
  step-extended _ (an_integrity e l o) on = plain _ (an_integrity e l o) tt (unseen (seen (first_of F t + last_of F t) es) es _ _ (rest _ (at + integrity_size F) (omega arith) (omega arith)))
  step-extended _ (a_request e l o) on = plain _ (a_request e l o) tt (rest es (at + named_size F) (omega arith) (omega arith))
  step-extended _ (a_cancel e l o) on = plain _ (a_cancel e l o) tt (rest es (at + named_size F) (omega arith) (omega arith))
  step-extended _ (a_choke e l) on = plain _ (a_choke e l) tt (rest es (at + 1) (omega arith) (omega arith))
  step-extended _ (an_unchoke e l) on = plain _ (an_unchoke e l) tt (rest es (at + 1) (omega arith) (omega arith))
  step-extended _ (an_empty k h e l o) on = plain _ (an_empty k h e l o) tt (rest es (at + named_size F) (omega arith) (omega arith))

-- The checks of a lengthened datagram, with turns enough.
pub extended : (F : Format) (n m : ℕ) (p b es : List ℕ) (at : ℕ) → at ≤ length p → length p < at + n → length (p ++ b) < at + m
    → Extended F p b (layout_from F n p es at).layout (layout_from F n p es at).entries (layout_from F m (p ++ b) es at)
extended F zero m p b es at h k l = absurd (omega arith)
extended F (suc n) zero p b es at h k l = absurd (omega (arith, length-append p b))
extended F (suc n) (suc m) p b es at h k l =
    let t : List ℕ = drop at p in
    let more = length-append p b in
    let size : length p ≡ at + length t = omega (arith, length-drop at p) in
    let split : layout_from F (suc m) (p ++ b) es at ≡ layout_step (p ++ b) es at (step_of F at (t ++ b)) (λ gs next. layout_from F m (p ++ b) gs next) =
    layout-suc F m (p ++ b) es at ∙ ap (λ (r : List ℕ). layout_step (p ++ b) es at (step_of F at r) (λ gs next. layout_from F m (p ++ b) gs next)) (drop-append-le at p b h) in
    rw (split, layout-suc F n p es at)
    (step-extended F p b es at t size (λ gs next. layout_from F n p gs next) (λ gs next. layout_from F m (p ++ b) gs next)
    (λ gs next lo hi. extended F n m p b gs next (omega arith) (omega arith) (omega arith)) (step_at F p at) (view F at t)
    (λ e m' l'. sym split ∙ turns F (suc m) m' (p ++ b) es at l (omega arith) ∙ ap (layout_from F m' (p ++ b) es) (omega arith)))

-- ---- a whole datagram
pub layout_is : (F : Format) (s : List ℕ) → min_size ≤ length s → length s ≤ max_size → layout_of F s ≡ layout_from F (length s) s [] min_size
unfolding layout_of
layout_is F s h k = rw (le-ltb (length s) min_size h, le-ltb max_size (length s) k)

-- A datagram that is lengthened within the limit.
pub lengthened : (F : Format) (p b : List ℕ) → min_size ≤ length p → length (p ++ b) ≤ max_size → Extended F p b (layout_of F p).layout (layout_of F p).entries (layout_of F (p ++ b))
lengthened F p b h k =
    let more = length-append p b in
    rw (layout_is F p h (omega arith), layout_is F (p ++ b) (omega arith) k) (extended F (length p) (length (p ++ b)) p b [] min_size h (omega arith) (omega arith))
