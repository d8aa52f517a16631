-- What the checks tell of a datagram: where its DATA's chunk stands, and its entries in the room. Assumes nothing.
use Prim.Native.Nat.{ℕ, zero, suc, ◌+◌, ◌≤◌}
use native.Mathlib.Omega.{arith}
use mathlib.Core.Path.{◌≡◌, refl, sym, ap, subst, ◌∙◌}
use mathlib.Core.List.{List, [], ◌∷◌, ◌++◌}
use mathlib.Core.Bool.{Bool, true, false}
use lib.ListN.{length, take, drop, length-drop}
use lib.Dec.{ltb, eqb}
use borrow.Author.Tests.{ltb-false}
use Rattle.base.specs.Pick.{pick}
use Rattle.wire.specs.Bytes.{be32}
use Rattle.wire.specs.Limits.{min_size, max_size}
use Rattle.wire.specs.Place.{first_of, last_of, integrity_size, named_size, timed_size}
use Rattle.wire.specs.Options.{options_size}
use Rattle.wire.specs.Read.{kind_of, step_at}
use Rattle.wire.specs.Layout.{Checked, checked_of, seen, handshake_fault, or_fault, handshake_layout, layout_step, layout_from, layout_of}
use Rattle.wire.specs.Steps.{entry_words, check_spec}
use Rattle.wire.specs.declared.message.Options.{Options}
use Rattle.wire.specs.declared.message.Step.{Step}
use Rattle.wire.specs.declared.message.Step.TheVariants.{End, Refused}
use Rattle.wire.specs.Layout.{Layout}
use Rattle.wire.specs.Layout.{Fault, HandshakeAlone, Messages, MessagesAndData}
use Rattle.wire.proofs.PlacedLaws.{placed-length, placed-front}
use Rattle.wire.proofs.CountLaws.{entries_fit}
use Rattle.wire.proofs.ViewLaws.{View, the_end, refused, a_handshake, a_data, an_ack, a_have, an_integrity, a_request, a_cancel, a_choke, an_unchoke, view, an_empty}
use Rattle.format.specs.declared.Format.{Format}
use Rattle.std.specs.Prelude.{None}
use Rattle.base.specs.Refusal.{number, node}
use Rattle.base.specs.declared.Refusal.{Refusal}
use Rattle.base.specs.declared.Refusal.TheVariants as refusal
use Rattle.base.specs.declared.Refusal.TheVariants.{DatagramSize, NoChannel, TableFull, PastPack, ChunkSize, HashMissing, HashWrong}
use Rattle.base.specs.declared.Refusal.TheVariants.{RoomTooSmall, Order, NotHeld, ChannelId}
use Rattle.wire.proofs.FaultLaws.{Numbered, numbered}

-- DATA's chunk reaches to the end of a datagram of n bytes.
abbrev pub ToEnd : Layout → ℕ → Type 0
ToEnd (Fault k) n = Unit {0}
ToEnd (HandshakeAlone a o) n = Unit {0}
ToEnd (Messages k) n = Unit {0}
ToEnd (MessagesAndData c x b d k) n = b + d ≡ n

module _ (F : Format) (s es : List ℕ) (at : ℕ) (t : List ℕ) (size : length s ≡ at + length t) (rest : List ℕ → ℕ → Checked)
    (more : (gs : List ℕ) (next : ℕ) → next ≤ length s → ToEnd (rest gs next).layout (length s)) where
  silent : (next a : ℕ) (o : Options) → ToEnd (handshake_layout s at next a o) (length s)
  unfolding handshake_layout
  silent next a o = by (pick (eqb at min_size) (pick (eqb next (length s)) (handshake_fault (be32 s 0) a o) 3) 3)
    where
      by : (n : ℕ) → ToEnd (or_fault n (HandshakeAlone a o)) (length s)
      by zero = tt
      by (suc n) = tt

  noted : (x : Bool) (c : Checked) → ToEnd c.layout (length s) → ToEnd (pick x (checked_of (Fault 2) es) c).layout (length s)
  noted true c h = tt
  noted false c h = h

  step-to-end : (st : Step) → View F at t st → ToEnd (layout_step s es at st rest).layout (length s)
  step-to-end End (the_end h) = tt
  step-to-end Refused refused = tt
  step-to-end _ (a_handshake e l o) = silent (at + 5 + options_size (drop 5 t)) (be32 t 1) (kind_of F (at + 5) (drop 5 t))
  step-to-end _ (a_data e l o) = omega arith
  step-to-end _ (an_ack e l o) = more es (at + timed_size F) (omega arith)
  step-to-end _ (a_have e l o) = more es (at + named_size F) (omega arith)
  step-to-end _ (an_integrity e l o) =
      let gs : List ℕ = es ++ ((first_of F t + last_of F t) ∷ (at + named_size F) ∷ []) in
      noted (seen (first_of F t + last_of F t) es) (rest gs (at + integrity_size F)) (more gs (at + integrity_size F) (omega arith))
  step-to-end _ (a_request e l o) = more es (at + named_size F) (omega arith)
  step-to-end _ (a_cancel e l o) = more es (at + named_size F) (omega arith)
  step-to-end _ (a_choke e l) = more es (at + 1) (omega arith)
  step-to-end _ (an_unchoke e l) = more es (at + 1) (omega arith)
  step-to-end _ (an_empty k g e l o) = more es (at + named_size F) (omega arith)

from-to_end : (F : Format) (n : ℕ) (s es : List ℕ) (at : ℕ) → at ≤ length s → ToEnd (layout_from F n s es at).layout (length s)
unfolding layout_from
from-to_end F zero s es at h = tt
from-to_end F (suc n) s es at h =
    step-to-end F s es at (drop at s) (omega (arith, length-drop at s)) (λ gs next. layout_from F n s gs next) (λ gs next k. from-to_end F n s gs next k) (step_at F s at) (view F at (drop at s))

-- Where the chunk of a datagram's DATA stands.
pub to_end : (F : Format) (s : List ℕ) → ToEnd (layout_of F s).layout (length s)
unfolding layout_of
to_end F s = by (ltb (length s) min_size) (ltb max_size (length s)) refl
  where
    by : (x y : Bool) → ltb (length s) min_size ≡ x
        → ToEnd (pick x (checked_of (Fault 1) []) (pick y (checked_of (Fault 1) []) (layout_from F (length s) s [] min_size))).layout (length s)
    by true y p = tt
    by false true p = tt
    by false false p = from-to_end F (length s) s [] min_size (ltb-false (length s) min_size p)

-- What the checks gave, with a room for the entries.
module _ (F : Format) (room s : List ℕ) {l : Layout} {after : List ℕ} (e : checked_of l after ≡ check_spec F room s) where
  -- The layout is the datagram's.
  pub layout-told : l ≡ (layout_of F s).layout
  unfolding check_spec
  layout-told = ap (λ (c : Checked). c.layout) e

  -- The room keeps its length.
  pub length-told : length after ≡ length room
  unfolding check_spec
  length-told = placed-length room 0 (layout_of F s).entries (ap (λ (c : Checked). c.entries) e)

  -- Its entries stand at the front of a room that has as many words as any datagram's.
  pub entries-told : entry_words ≤ length room → take (length (layout_of F s).entries) after ≡ (layout_of F s).entries
  unfolding check_spec
  entries-told h =
      let g = (entries_fit F s).1 in
      let z : 0 + length (layout_of F s).entries ≡ length (layout_of F s).entries = omega arith in
      ap (λ (c : Checked). take (length (layout_of F s).entries) c.entries) e ∙ (rw z at (placed-front room 0 (layout_of F s).entries (omega arith)))

-- A refusal of the checks names no node.
low-nameless : (e : Refusal) → number e ≤ 3 → node e ≡ None
low-nameless DatagramSize h = refl
low-nameless refusal.Layout h = refl
low-nameless refusal.Handshake h = refl
low-nameless refusal.Options h = refl
low-nameless NoChannel h = refl
low-nameless TableFull h = refl
low-nameless PastPack h = refl
low-nameless ChunkSize h = refl
low-nameless (HashMissing b) h = absurd (omega arith)
low-nameless (HashWrong b) h = absurd (omega arith)
low-nameless RoomTooSmall h = refl
low-nameless Order h = refl
low-nameless NotHeld h = refl
low-nameless ChannelId h = refl

pub refusal-told : (F : Format) (room s : List ℕ) (e : Refusal) {after : List ℕ} → checked_of (Fault (number e)) after ≡ check_spec F room s → node e ≡ None
refusal-told F room s e h =
    let n : (1 ≤ number e) × (number e ≤ 3) = subst Numbered (sym (layout-told F room s h)) (numbered F s) in
    low-nameless e n.1
