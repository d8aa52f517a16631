-- A HANDSHAKE that the checks let pass: it has no fault of its own, and its source is the number that stands there. Assumes
-- nothing.
use Prim.Native.Nat.{ℕ, zero, suc}
use mathlib.Core.Path.{◌≡◌, refl, ap, ◌∙◌}
use mathlib.Core.List.{List, []}
use mathlib.Core.Bool.{Bool, true, false}
use borrow.Author.Tests.{eqb-true}
use lib.ListN.{length, drop}
use lib.Dec.{ltb, eqb}
use Rattle.base.specs.Pick.{pick}
use Rattle.wire.specs.Bytes.{be32}
use Rattle.wire.specs.Limits.{min_size, max_size}
use Rattle.wire.specs.Read.{step_at}
use Rattle.wire.specs.Layout.{Checked, checked_of, seen, handshake_fault, or_fault, handshake_layout, layout_step, layout_from, layout_of}
use Rattle.wire.specs.declared.message.Options.{Options}
use Rattle.wire.specs.declared.message.Step.{Step}
use Rattle.wire.specs.Layout.{Layout}
use Rattle.wire.specs.Layout.{Fault, HandshakeAlone, Messages, MessagesAndData}
use Rattle.wire.proofs.ViewLaws.{View, the_end, refused, a_handshake, a_data, an_ack, a_have, an_integrity, a_request, a_cancel, a_choke, an_unchoke, view, an_empty}
use Rattle.format.specs.declared.Format.{Format}

abbrev pub Alone : List ℕ → Layout → Type 0
Alone s (Fault n) = Unit {0}
Alone s (HandshakeAlone a o) = (handshake_fault (be32 s 0) a o ≡ 0) × (a ≡ be32 (drop min_size s) 1)
Alone s (Messages k) = Unit {0}
Alone s (MessagesAndData c x b n k) = Unit {0}

handshake-alone : (s : List ℕ) (at next a : ℕ) (o : Options) → a ≡ be32 (drop at s) 1 → Alone s (handshake_layout s at next a o)
unfolding handshake_layout
handshake-alone s at next a o p = by (eqb at min_size) refl (eqb next (length s))
  where
    or-fault : at ≡ min_size → (n : ℕ) → handshake_fault (be32 s 0) a o ≡ n → Alone s (or_fault n (HandshakeAlone a o))
    or-fault e zero f = (f, p ∙ ap (λ (k : ℕ). be32 (drop k s) 1) e)
    or-fault e (suc n) f = tt

    by : (x : Bool) → eqb at min_size ≡ x → (y : Bool) → Alone s (or_fault (pick x (pick y (handshake_fault (be32 s 0) a o) 3) 3) (HandshakeAlone a o))
    by true e true = or-fault (eqb-true at min_size e) (handshake_fault (be32 s 0) a o) refl
    by true e false = tt
    by false e y = tt

module _ (F : Format) (s : List ℕ) where
  alone-if : (x : Bool) (gs : List ℕ) (c : Checked) → Alone s c.layout → Alone s (pick x (checked_of (Fault 2) gs) c).layout
  alone-if true gs c h = tt
  alone-if false gs c h = h

  alone-step : (es : List ℕ) (at : ℕ) (rest : List ℕ → ℕ → Checked) → ((gs : List ℕ) (next : ℕ) → Alone s (rest gs next).layout)
      → (st : Step) → View F at (drop at s) st → Alone s (layout_step s es at st rest).layout
  alone-step es at rest h _ (the_end l) = tt
  alone-step es at rest h _ refused = tt
  alone-step es at rest h _ (a_handshake e l o) = handshake-alone s at _ _ _ refl
  alone-step es at rest h _ (a_data e l o) = tt
  alone-step es at rest h _ (an_ack e l o) = h es _
  alone-step es at rest h _ (a_have e l o) = h es _
  alone-step es at rest h _ (an_integrity e l o) = alone-if (seen _ es) es _ (h _ _)
  alone-step es at rest h _ (a_request e l o) = h es _
  alone-step es at rest h _ (a_cancel e l o) = h es _
  alone-step es at rest h _ (a_choke e l) = h es _
  alone-step es at rest h _ (an_unchoke e l) = h es _
  alone-step es at rest h _ (an_empty k g e l o) = h es _

  alone-from : (n : ℕ) (es : List ℕ) (at : ℕ) → Alone s (layout_from F n s es at).layout
  unfolding layout_from
  alone-from zero es at = tt
  alone-from (suc n) es at = alone-step es at (λ gs next. layout_from F n s gs next) (λ gs next. alone-from n gs next) (step_at F s at) (view F at (drop at s))

  pub layout-alone : Alone s (layout_of F s).layout
  unfolding layout_of
  layout-alone = by (ltb (length s) min_size) (ltb max_size (length s))
    where
      by : (x y : Bool) → Alone s (pick x (checked_of (Fault 1) []) (pick y (checked_of (Fault 1) []) (layout_from F (length s) s [] min_size))).layout
      by true y = tt
      by false true = tt
      by false false = alone-from (length s) [] min_size
