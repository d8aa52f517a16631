-- The size and layout checks over a whole datagram (01, "Numbers given back": 1; then 2 and 3 message by message from left
-- to right). Assumes nothing.
use Rattle.std.specs.Prelude.{ℕ, zero, suc, ◌+◌, List, [], ◌∷◌, ◌++◌, Bool, true, false, length, ltb, eqb}
use Rattle.base.specs.Pick.{pick}
use Rattle.format.specs.declared.Format.{Format}
use Rattle.wire.specs.Bytes.{be32}
use Rattle.wire.specs.Limits.{min_size, max_size}
use Rattle.wire.specs.Read.{step_number, step_at}
use Rattle.wire.specs.declared.message.Options.{Options}
use Rattle.wire.specs.declared.message.Options.TheVariants.{Fixed, EndOnly, Other}
use Rattle.wire.specs.declared.message.Message.{Message}
use Rattle.wire.specs.declared.message.Message.TheVariants.{Handshake, Data, Ack, Have, Integrity, Request, Cancel, Choke, Unchoke, Empty}
use Rattle.wire.specs.declared.message.Step.{Step}
use Rattle.wire.specs.declared.message.Step.TheVariants.{Read, End, Refused}
use Rattle.std.specs.Prelude.{Result, Ok, Err}
use Rattle.base.specs.declared.Refusal.{Refusal}
use Rattle.base.specs.Refusal.{number}
use Rattle.wire.specs.declared.layout.Layout as src
use Rattle.wire.specs.declared.layout.Layout.TheVariants as sound

-- What a datagram is: refused with a number, a HANDSHAKE alone, messages without DATA, or messages with DATA at their
-- end. `entries` is how many words their nodes take.
pub data Layout : Type 0 where
  Fault : (n : ℕ) → Layout
  HandshakeAlone : (source : ℕ) (options : Options) → Layout
  Messages : (entries : ℕ) → Layout
  MessagesAndData : (chunk timestamp start len entries : ℕ) → Layout

-- What the result of a check says.
abbrev pub layout_said : Result src.Layout Refusal → Layout
layout_said (Ok (sound.HandshakeAlone a o)) = HandshakeAlone a o
layout_said (Ok (sound.Messages k)) = Messages k
layout_said (Ok (sound.MessagesAndData c x b n k)) = MessagesAndData c x b n k
layout_said (Err e) = Fault (number e)

-- The number that refuses a datagram, or 0.
abbrev pub number_of : Layout → ℕ
number_of (Fault n) = n
number_of (HandshakeAlone a o) = 0
number_of (Messages k) = 0
number_of (MessagesAndData c x b n k) = 0

-- What the checks give: what the datagram is, and the nodes of the INTEGRITY messages read, each with the place of its
-- hash behind it.
pub record Checked : Type 0 where
  pub layout : Layout
  pub entries : List ℕ

abbrev pub checked_of : Layout → List ℕ → Checked
checked_of l es = record { layout = l; entries = es }

-- Whether node x is among the entries.
unfoldable pub seen : ℕ → List ℕ → Bool
seen x [] = false
seen x (n ∷ []) = false
seen x (n ∷ p ∷ es) = pick (eqb n x) true (seen x es)

abbrev pub is_end_only : Options → Bool
is_end_only (Fixed r) = false
is_end_only EndOnly = true
is_end_only Other = false

-- 3 for a HANDSHAKE with both channel numbers 0, or that closes, which its source 0 says, with other options than End.
unfoldable pub handshake_fault : ℕ → ℕ → Options → ℕ
handshake_fault to a o = pick (eqb a 0) (pick (eqb to 0) 3 (pick (is_end_only o) 0 3)) 0

abbrev pub or_fault : ℕ → Layout → Layout
or_fault zero l = l
or_fault (suc n) l = Fault (suc n)

-- A HANDSHAKE from `at` to `next` of s: 3 too where a message stands before it or a byte behind it.
unfoldable pub handshake_layout : List ℕ → ℕ → ℕ → ℕ → Options → Layout
handshake_layout s at next a o =
    or_fault (pick (eqb at min_size) (pick (eqb next (length s)) (handshake_fault (be32 s 0) a o) 3) 3)
    (HandshakeAlone a o)

-- A message from `at` to `next`, behind the entries es; `rest` gives what comes after it. DATA reaches to the end. The node
-- over the chunks f..l has the number f + l (tree, Range).
abbrev pub layout_on : List ℕ → List ℕ → ℕ → ℕ → Message → (List ℕ → Checked) → Checked
layout_on s es at next (Handshake a o) rest = checked_of (handshake_layout s at next a o) es
layout_on s es at next (Data f l x b n) rest = checked_of (MessagesAndData f x b n (length es)) es
layout_on s es at next (Integrity f l h) rest =
    pick (seen (f + l) es) (checked_of (Fault 2) es) (rest (es ++ ((f + l) ∷ h ∷ [])))
layout_on s es at next (Ack f l d) rest = rest es
layout_on s es at next (Have f l) rest = rest es
layout_on s es at next (Request f l) rest = rest es
layout_on s es at next (Cancel f l) rest = rest es
layout_on s es at next Choke rest = rest es
layout_on s es at next Unchoke rest = rest es
layout_on s es at next (Empty k) rest = rest es

abbrev pub layout_step : List ℕ → List ℕ → ℕ → Step → (List ℕ → ℕ → Checked) → Checked
layout_step s es at (Read m next) rest = layout_on s es at next.at m (λ gs. rest gs next.at)
layout_step s es at End rest = checked_of (Messages (length es)) es
layout_step s es at Refused rest = checked_of (Fault (step_number Refused)) es

-- The messages from `at` on, of which there are at most n: n is the datagram's length at first, and each message has a byte
-- at least, so it is never used up.
unfoldable pub layout_from : Format → ℕ → List ℕ → List ℕ → ℕ → Checked
layout_from F zero s es at = checked_of (Messages (length es)) es
layout_from F (suc n) s es at = layout_step s es at (step_at F s at) (λ gs next. layout_from F n s gs next)

-- The size, then the messages behind the destination.
unfoldable pub layout_of : Format → List ℕ → Checked
layout_of F s =
    pick (ltb (length s) min_size) (checked_of (Fault 1) [])
    (pick (ltb max_size (length s)) (checked_of (Fault 1) [])
    (layout_from F (length s) s [] min_size))
