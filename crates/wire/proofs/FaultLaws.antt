-- The number of a datagram that the checks refuse: 1, 2 or 3. Assumes nothing.
use Prim.Native.Nat.{ℕ, zero, suc, ◌+◌, ◌<◌, ◌≤◌}
use native.Mathlib.Omega.{arith}
use mathlib.Core.Path.{◌≡◌, refl}
use mathlib.Core.List.{List, [], ◌∷◌, ◌++◌}
use mathlib.Core.Bool.{Bool, true, false}
use lib.ListN.{length}
use lib.Dec.{ltb, eqb}
use borrow.Author.Tests.{ltb-false, lt-ltb, le-ltb}
use Rattle.base.specs.Pick.{pick}
use Rattle.wire.specs.Bytes.{be32}
use Rattle.wire.specs.Limits.{min_size, max_size}
use Rattle.wire.specs.Read.{step_at}
use Rattle.wire.specs.Layout.{Checked, checked_of, number_of, seen, is_end_only, handshake_fault, or_fault, handshake_layout, layout_step, layout_from, layout_of}
use Rattle.wire.specs.declared.message.Options.{Options}
use Rattle.wire.specs.declared.message.Message.TheVariants.{Handshake, Data, Ack, Have, Integrity, Request, Cancel, Choke, Unchoke, Empty}
use Rattle.wire.specs.declared.message.Step.{Step}
use Rattle.wire.specs.declared.message.Step.TheVariants.{Read, End, Refused}
use Rattle.wire.specs.Layout.{Layout}
use Rattle.wire.specs.Layout.{Fault, HandshakeAlone, Messages, MessagesAndData}
use Rattle.format.specs.declared.Format.{Format}

-- Not refused.
abbrev pub Passed : Layout → Type 0
Passed (Fault n) = ⊥
Passed (HandshakeAlone a o) = Unit {0}
Passed (Messages k) = Unit {0}
Passed (MessagesAndData c x b n k) = Unit {0}

-- Refused with 1, 2 or 3, if at all.
abbrev pub Numbered : Layout → Type 0
Numbered (Fault n) = (1 ≤ n) × (n ≤ 3)
Numbered (HandshakeAlone a o) = Unit {0}
Numbered (Messages k) = Unit {0}
Numbered (MessagesAndData c x b n k) = Unit {0}

handshake-number : (to a : ℕ) (o : Options) → handshake_fault to a o ≤ 3
unfolding handshake_fault
handshake-number to a o = by (eqb a 0) (eqb to 0) (is_end_only o)
  where
    by : (x y z : Bool) → pick x (pick y 3 (pick z 0 3)) 0 ≤ 3
    by true true z = omega arith
    by true false true = omega arith
    by true false false = omega arith
    by false y z = omega arith

numbered_handshake : (s : List ℕ) (at next a : ℕ) (o : Options) → Numbered (handshake_layout s at next a o)
unfolding handshake_layout
numbered_handshake s at next a o = by (eqb at min_size) (eqb next (length s))
  where
    or-fault : (n : ℕ) → n ≤ 3 → Numbered (or_fault n (HandshakeAlone a o))
    or-fault zero h = tt
    or-fault (suc n) h = (omega arith, h)

    by : (x y : Bool) → Numbered (or_fault (pick x (pick y (handshake_fault (be32 s 0) a o) 3) 3) (HandshakeAlone a o))
    by true true = or-fault (handshake_fault (be32 s 0) a o) (handshake-number (be32 s 0) a o)
    by true false = or-fault 3 (omega arith)
    by false y = or-fault 3 (omega arith)

numbered_if : (x : Bool) (gs : List ℕ) (c : Checked) → Numbered c.layout → Numbered (pick x (checked_of (Fault 2) gs) c).layout
numbered_if true gs c h = (omega arith, omega arith)
numbered_if false gs c h = h

numbered_step : (s es : List ℕ) (at : ℕ) (rest : List ℕ → ℕ → Checked) → ((gs : List ℕ) (next : ℕ) → Numbered (rest gs next).layout) → (st : Step) → Numbered (layout_step s es at st rest).layout
numbered_step s es at rest h End = tt
numbered_step s es at rest h Refused = (omega arith, omega arith)
numbered_step s es at rest h (Read (Handshake a o) next) = numbered_handshake s at next.at a o
numbered_step s es at rest h (Read (Data f l x b n) next) = tt
numbered_step s es at rest h (Read (Ack f l d) next) = h es next.at
numbered_step s es at rest h (Read (Have f l) next) = h es next.at
numbered_step s es at rest h (Read (Integrity f l d) next) =
    numbered_if (seen (f + l) es) es (rest (es ++ ((f + l) ∷ d ∷ [])) next.at) (h (es ++ ((f + l) ∷ d ∷ [])) next.at)
numbered_step s es at rest h (Read (Request f l) next) = h es next.at
numbered_step s es at rest h (Read (Cancel f l) next) = h es next.at
numbered_step s es at rest h (Read Choke next) = h es next.at
numbered_step s es at rest h (Read Unchoke next) = h es next.at
numbered_step s es at rest h (Read (Empty k) next) = h es next.at

numbered_from : (F : Format) (n : ℕ) (s es : List ℕ) (at : ℕ) → Numbered (layout_from F n s es at).layout
unfolding layout_from
numbered_from F zero s es at = tt
numbered_from F (suc n) s es at = numbered_step s es at (λ gs next. layout_from F n s gs next) (λ gs next. numbered_from F n s gs next) (step_at F s at)

-- A refusal is 1, 2 or 3.
pub numbered : (F : Format) (s : List ℕ) → Numbered (layout_of F s).layout
unfolding layout_of
numbered F s = by (ltb (length s) min_size) (ltb max_size (length s))
  where
    by : (x y : Bool) → Numbered (pick x (checked_of (Fault 1) []) (pick y (checked_of (Fault 1) []) (layout_from F (length s) s [] min_size))).layout
    by true y = (omega arith, omega arith)
    by false true = (omega arith, omega arith)
    by false false = numbered_from F (length s) s [] min_size

-- So a layout with the number 0 is not one.
passes : (l : Layout) → Numbered l → number_of l ≡ 0 → Passed l
passes (Fault n) h e = absurd (omega (arith, h.0, e))
passes (HandshakeAlone a o) h e = tt
passes (Messages k) h e = tt
passes (MessagesAndData c x b n k) h e = tt

-- A datagram with the number 0 is within the sizes and is not refused.
pub passed : (F : Format) (s : List ℕ) → number_of (layout_of F s).layout ≡ 0 → (min_size ≤ length s) × (length s ≤ max_size) × Passed (layout_of F s).layout
unfolding layout_of
passed F s e = (sizes.0, sizes.1, passes (layout_of F s).layout (numbered F s) e)
  where
    by : (x y : Bool) → ltb (length s) min_size ≡ x → ltb max_size (length s) ≡ y
        → number_of (pick x (checked_of (Fault 1) []) (pick y (checked_of (Fault 1) []) (layout_from F (length s) s [] min_size))).layout ≡ 0 → (min_size ≤ length s) × (length s ≤ max_size)
    by true y p q z = absurd (omega (arith, z))
    by false true p q z = absurd (omega (arith, z))
    by false false p q z = (ltb-false (length s) min_size p, ltb-false max_size (length s) q)

    sizes : (min_size ≤ length s) × (length s ≤ max_size)
    sizes = by (ltb (length s) min_size) (ltb max_size (length s)) refl refl e

-- A datagram over the limit.
pub too_long : (F : Format) (s : List ℕ) → max_size < length s → (layout_of F s).layout ≡ Fault 1
unfolding layout_of
too_long F s h = rw (le-ltb (length s) min_size (omega arith), lt-ltb max_size (length s) h)
