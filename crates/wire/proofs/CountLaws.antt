-- The entries of a datagram: how many there are, and that there is room for them. Assumes nothing.
use Prim.Native.Nat.{ℕ, zero, suc, ◌+◌, ◌*◌, ◌%◌, ◌≤◌}
use native.Mathlib.Omega.{arith}
use mathlib.Core.Path.{◌≡◌, refl}
use mathlib.Core.List.{List, [], ◌∷◌, ◌++◌}
use mathlib.Core.Bool.{Bool, true, false}
use lib.ListN.{length, drop, length-append, length-drop}
use lib.Dec.{ltb, eqb}
use borrow.Author.Tests.{ltb-false}
use Rattle.base.specs.Pick.{pick}
use Rattle.wire.specs.Bytes.{be32}
use Rattle.wire.specs.Limits.{min_size, max_size}
use Rattle.wire.specs.Place.{first_of, last_of, integrity_size, named_size, timed_size}
use Rattle.wire.specs.Options.{options_size}
use Rattle.wire.specs.Read.{kind_of, step_at}
use Rattle.wire.specs.Layout.{Checked, checked_of, seen, handshake_fault, or_fault, handshake_layout, layout_step, layout_from, layout_of}
use Rattle.wire.specs.Steps.{entry_words, least_integrity}
use Rattle.wire.specs.declared.message.Options.{Options}
use Rattle.wire.specs.declared.message.Step.{Step}
use Rattle.wire.specs.declared.message.Step.TheVariants.{End, Refused}
use Rattle.wire.specs.Layout.{Layout}
use Rattle.wire.specs.Layout.{Fault, HandshakeAlone, Messages, MessagesAndData}
use Rattle.wire.proofs.ViewLaws.{View, the_end, refused, a_handshake, a_data, an_ack, a_have, an_integrity, a_request, a_cancel, a_choke, an_unchoke, view, an_empty}
use Rattle.format.specs.declared.Format.{Format}
use Rattle.wire.proofs.PlaceLaws.{place-least}

-- A layout says how many words its entries have, where it says it.
abbrev pub Says : Layout → ℕ → Type 0
Says (Fault n) k = Unit {0}
Says (HandshakeAlone a o) k = Unit {0}
Says (Messages j) k = j ≡ k
Says (MessagesAndData c x b n j) k = j ≡ k

-- Entries in pairs, for each of which 37 bytes at least stand before `at`.
pub record Paid (es : List ℕ) (at : ℕ) : Type 0 where
  pub bytes : least_integrity * length es + 2 * min_size ≤ 2 * at
  pub pairs : length es % 2 ≡ 0

pub record Counted (s : List ℕ) (c : Checked) : Type 0 where
  pub says : Says c.layout (length c.entries)
  pub paid : Paid c.entries (length s)

module _ (F : Format) (s es : List ℕ) (at : ℕ) (t : List ℕ) (size : length s ≡ at + length t) (p : Paid es at) (rest : List ℕ → ℕ → Checked)
    (more : (gs : List ℕ) (next : ℕ) → next ≤ length s → Paid gs next → Counted s (rest gs next)) where
  later : (next : ℕ) → at ≤ next → Paid es next
  later next h = record { bytes = omega (arith, p.bytes); pairs = p.pairs }

  silent : (next a : ℕ) (o : Options) (k : ℕ) → Says (handshake_layout s at next a o) k
  unfolding handshake_layout
  silent next a o k = by (pick (eqb at min_size) (pick (eqb next (length s)) (handshake_fault (be32 s 0) a o) 3) 3)
    where
      by : (n : ℕ) → Says (or_fault n (HandshakeAlone a o)) k
      by zero = tt
      by (suc n) = tt

  noted : (x : Bool) (c : Checked) → Counted s c → Counted s (pick x (checked_of (Fault 2) es) c)
  noted true c h = record { says = tt; paid = later (length s) (omega arith) }
  noted false c h = h

  pub step-counted : (st : Step) → View F at t st → Counted s (layout_step s es at st rest)
  step-counted End (the_end h) = record { says = refl; paid = later (length s) (omega arith) }
  step-counted Refused refused = record { says = tt; paid = later (length s) (omega arith) }
  step-counted _ (a_handshake e l o) = record { says = silent (at + 5 + options_size (drop 5 t)) (be32 t 1) (kind_of F (at + 5) (drop 5 t)) (length es); paid = later (length s) (omega arith) }
  step-counted _ (a_data e l o) = record { says = refl; paid = later (length s) (omega arith) }
  step-counted _ (an_ack e l o) = more es (at + timed_size F) (omega arith) (later (at + timed_size F) (omega arith))
  step-counted _ (a_have e l o) = more es (at + named_size F) (omega arith) (later (at + named_size F) (omega arith))
  step-counted _ (an_integrity e l o) =
      let gs : List ℕ = es ++ ((first_of F t + last_of F t) ∷ (at + named_size F) ∷ []) in
      let n : length gs ≡ length es + 2 = length-append es ((first_of F t + last_of F t) ∷ (at + named_size F) ∷ []) in
      noted (seen (first_of F t + last_of F t) es) (rest gs (at + integrity_size F))
      (more gs (at + integrity_size F) (omega arith) (record { bytes = omega (arith, n, p.bytes, place-least F); pairs = rw n (omega (arith, p.pairs)) }))
  step-counted _ (a_request e l o) = more es (at + named_size F) (omega arith) (later (at + named_size F) (omega arith))
  step-counted _ (a_cancel e l o) = more es (at + named_size F) (omega arith) (later (at + named_size F) (omega arith))
  step-counted _ (a_choke e l) = more es (at + 1) (omega arith) (later (at + 1) (omega arith))
  step-counted _ (an_unchoke e l) = more es (at + 1) (omega arith) (later (at + 1) (omega arith))
  step-counted _ (an_empty k g e l o) = more es (at + named_size F) (omega arith) (later (at + named_size F) (omega arith))

pub counted-from : (F : Format) (n : ℕ) (s es : List ℕ) (at : ℕ) → at ≤ length s → Paid es at → Counted s (layout_from F n s es at)
unfolding layout_from
counted-from F zero s es at h p = record { says = refl; paid = record { bytes = omega (arith, p.bytes); pairs = p.pairs } }
counted-from F (suc n) s es at h p =
    step-counted F s es at (drop at s) (omega (arith, length-drop at s)) p (λ gs next. layout_from F n s gs next) (λ gs next k q. counted-from F n s gs next k q) (step_at F s at) (view F at (drop at s))

-- The words of a datagram's entries, and that they have room.
pub entries_fit : (F : Format) (s : List ℕ) → Says (layout_of F s).layout (length (layout_of F s).entries) × (length (layout_of F s).entries ≤ entry_words)
unfolding layout_of
entries_fit F s = by (ltb (length s) min_size) (ltb max_size (length s)) refl refl
  where
    by : (x y : Bool) → ltb (length s) min_size ≡ x → ltb max_size (length s) ≡ y
        → Says (pick x (checked_of (Fault 1) []) (pick y (checked_of (Fault 1) []) (layout_from F (length s) s [] min_size))).layout (length (pick x (checked_of (Fault 1) []) (pick y (checked_of (Fault 1) []) (layout_from F (length s) s [] min_size))).entries)
        × (length (pick x (checked_of (Fault 1) []) (pick y (checked_of (Fault 1) []) (layout_from F (length s) s [] min_size))).entries ≤ entry_words)
    by true y p q = (tt, omega arith)
    by false true p q = (tt, omega arith)
    by false false p q =
        let c = counted-from F (length s) s [] min_size (ltb-false (length s) min_size p) (record { bytes = omega arith; pairs = refl }) in
        (c.says, omega (arith, c.paid.bytes, c.paid.pairs, ltb-false max_size (length s) q))
