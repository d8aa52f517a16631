-- Reading goes forward, and an INTEGRITY message has 37 bytes at least, which lie in the datagram. Assumes nothing.
use Prim.Native.Nat.{ℕ, ◌+◌, ◌≤◌}
use native.Mathlib.Omega.{arith}
use mathlib.Core.List.{List}
use lib.ListN.{length}
use Rattle.wire.specs.Read.{step_of}
use Rattle.wire.specs.declared.message.Message.{Message}
use Rattle.wire.specs.declared.message.Message.TheVariants.{Handshake, Data, Ack, Have, Integrity, Request, Cancel, Choke, Unchoke, Empty}
use Rattle.wire.specs.declared.message.Step.{Step}
use Rattle.wire.specs.declared.message.Step.TheVariants.{Read, End, Refused}
use Rattle.wire.proofs.ViewLaws.{View, the_end, refused, a_handshake, a_data, an_ack, a_have, an_integrity, a_request, a_cancel, a_choke, an_unchoke, view, an_empty}
use Rattle.format.specs.declared.Format.{Format}
use Rattle.wire.specs.Steps.{least_integrity}
use Rattle.wire.proofs.PlaceLaws.{place-least}

-- where the next message stands
abbrev pub next_of : ℕ → Step → ℕ
next_of at (Read m next) = next.at
next_of at End = at
next_of at Refused = at

-- the fewest bytes of an INTEGRITY message; 0 of another
abbrev pub span_of : Message → ℕ
span_of (Handshake a o) = 0
span_of (Data f l x b n) = 0
span_of (Ack f l d) = 0
span_of (Have f l) = 0
span_of (Integrity f l h) = least_integrity
span_of (Request f l) = 0
span_of (Cancel f l) = 0
span_of Choke = 0
span_of Unchoke = 0
span_of (Empty k) = 0

abbrev pub step_span : Step → ℕ
step_span (Read m next) = span_of m
step_span End = 0
step_span Refused = 0

-- a step at `at`, of which `size` bytes are left, goes forward, and by the bytes of an INTEGRITY message, which lie there
pub record Reaches (at size : ℕ) (st : Step) : Type 0 where
  pub forward : at + step_span st ≤ next_of at st
  pub inside : step_span st ≤ size

reaches : (F : Format) (at : ℕ) (t : List ℕ) (st : Step) → View F at t st → Reaches at (length t) st
reaches F at t End (the_end h) = record { forward = omega arith; inside = omega arith }
reaches F at t Refused refused = record { forward = omega arith; inside = omega arith }
reaches F at t _ (a_handshake e l o) = record { forward = omega arith; inside = omega arith }
reaches F at t _ (a_data e l o) = record { forward = omega arith; inside = omega arith }
reaches F at t _ (an_ack e l o) = record { forward = omega arith; inside = omega arith }
reaches F at t _ (a_have e l o) = record { forward = omega arith; inside = omega arith }
reaches F at t _ (an_integrity e l o) = record { forward = omega (arith, place-least F); inside = omega (arith, place-least F) }
reaches F at t _ (a_request e l o) = record { forward = omega arith; inside = omega arith }
reaches F at t _ (a_cancel e l o) = record { forward = omega arith; inside = omega arith }
reaches F at t _ (a_choke e l) = record { forward = omega arith; inside = omega arith }
reaches F at t _ (an_unchoke e l) = record { forward = omega arith; inside = omega arith }
reaches F at t _ (an_empty k h e l o) = record { forward = omega arith; inside = omega arith }

pub step_reaches : (F : Format) (at : ℕ) (t : List ℕ) → Reaches at (length t) (step_of F at t)
step_reaches F at t = reaches F at t (step_of F at t) (view F at t)
