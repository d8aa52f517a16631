-- Nothing of the papers: a message's size, and what adding computes on its way. Assumes nothing.
use Rattle.std.specs.Prelude.{ℕ, ◌+◌, ◌≤◌, ◌≡◌, List, Bool, true, false, not, ltb, eqb}
use Rattle.std.specs.Prelude.{Option, Some, None, Result, Ok, Err}
use Rattle.base.specs.Pick.{pick, earlier}
use Rattle.tree.proofs.Promise.{covers}
use Rattle.wire.specs.Limits.{min_size, max_size}
use Rattle.format.specs.declared.Format.{Format}
use Rattle.wire.specs.Place.{named_size, timed_size, integrity_size}
use Rattle.wire.specs.Options.{fixed_size}
use Rattle.wire.specs.Layout.{Checked, number_of, seen, handshake_fault}
use Rattle.wire.specs.declared.message.Options.{Options}
use Rattle.wire.specs.declared.message.Options.TheVariants.{Fixed, EndOnly, Other}
use Rattle.wire.specs.declared.message.Message.{Message}
use Rattle.wire.specs.declared.message.Message.TheVariants.{Handshake, Data, Ack, Have, Integrity, Request, Cancel, Choke, Unchoke, Empty}
use Rattle.wire.specs.Layout.{Layout}
use Rattle.wire.specs.Layout.{Fault, HandshakeAlone, Messages, MessagesAndData}
use Rattle.writer.specs.Bytes.{nameable, is_everything}
use Rattle.writer.specs.Message.{writable}
use Rattle.base.specs.Out.{Answers}
use Rattle.base.specs.Refusal.{number, node}
use Rattle.base.specs.declared.Refusal.{Refusal}

-- ---- sizes

-- The size of a message that can be written.
unfoldable pub option_span : Options → ℕ
option_span (Fixed root) = fixed_size
option_span EndOnly = 1
option_span Other = 0

unfoldable pub size_of : Format → Message → ℕ
size_of F (Handshake source options) = 5 + option_span options
size_of F (Data first last time start len) = timed_size F + len
size_of F (Ack first last delay) = timed_size F
size_of F (Have first last) = named_size F
size_of F (Integrity first last hash) = integrity_size F
size_of F (Request first last) = named_size F
size_of F (Cancel first last) = named_size F
size_of F Choke = 1
size_of F Unchoke = 1
size_of F (Empty kind) = named_size F

-- ---- the number for a message

-- Whether the chunks f..l can be named and pass the test t; and so for messages that may not name everything.
abbrev pub named_so : Format → (f l : ℕ) → Bool → Bool
named_so F f l t = pick (nameable F f l) t false

abbrev pub part_so : Format → (f l : ℕ) → Bool → Bool
part_so F f l t = named_so F f l (pick (is_everything F f l) false t)

-- Whether the table allows a message's chunks.
abbrev pub allowed : Format → Message → Bool
allowed F (Handshake a o) = true
allowed F (Data f l x b n) = part_so F f l (eqb f l)
allowed F (Ack f l d) = part_so F f l (not (ltb l f))
allowed F (Have f l) = named_so F f l (not (ltb l f))
allowed F (Integrity f l h) = part_so F f l (covers (f + l) f l)
allowed F (Request f l) = named_so F f l (not (ltb l f))
allowed F (Cancel f l) = named_so F f l (not (ltb l f))
allowed F Choke = true
allowed F Unchoke = true
allowed F (Empty k) = true

-- The number that the node of an INTEGRITY has, if its chunks are one's; no other message has one.
abbrev pub node_of : Message → Option ℕ
node_of (Handshake a o) = None
node_of (Data f l x b n) = None
node_of (Ack f l d) = None
node_of (Have f l) = None
node_of (Integrity f l h) = Some (f + l)
node_of (Request f l) = None
node_of (Cancel f l) = None
node_of Choke = None
node_of Unchoke = None
node_of (Empty k) = None

-- 2 for a node that is among the entries.
abbrev pub seen_fault : List ℕ → Option ℕ → ℕ
seen_fault es (Some b) = pick (seen b es) 2 0
seen_fault es None = 0

-- The number for a message by itself, behind len bytes of a datagram without HANDSHAKE or DATA, with its destination: 2 where
-- the table does not allow it.
abbrev pub own_fault : Format → (to len : ℕ) → Message → ℕ
own_fault F to len (Handshake a o) = pick (eqb len min_size) (handshake_fault to a o) 3
own_fault F to len (Data f l x b n) = pick (allowed F (Data f l x b n)) 0 2
own_fault F to len (Ack f l d) = pick (allowed F (Ack f l d)) 0 2
own_fault F to len (Have f l) = pick (allowed F (Have f l)) 0 2
own_fault F to len (Integrity f l h) = pick (allowed F (Integrity f l h)) 0 2
own_fault F to len (Request f l) = pick (allowed F (Request f l)) 0 2
own_fault F to len (Cancel f l) = pick (allowed F (Cancel f l)) 0 2
own_fault F to len Choke = 0
own_fault F to len Unchoke = 0
own_fault F to len (Empty k) = 0

-- The number for it behind such a datagram with these entries.
abbrev pub fault_behind : Format → List ℕ → (to len : ℕ) → Message → ℕ
fault_behind F es to len m = earlier (seen_fault es (node_of m)) (own_fault F to len m)

-- The number for a message behind a datagram of this layout and these entries, by what stands before it.
abbrev pub behind_of : Layout → List ℕ → Option ℕ → ℕ
behind_of (Fault n) es r = 0
behind_of (HandshakeAlone a o) es r = 3
behind_of (Messages k) es r = seen_fault es r
behind_of (MessagesAndData c x b n k) es r = 2

-- What a datagram of this layout and these entries says to one message more: its own number, or else the one behind it.
abbrev pub Told : {A : Type 0} → Result (Result A Refusal) Refusal → Checked → Option ℕ → Type 0
Told (Err e) c r = (number e ≡ number_of c.layout) × (node e ≡ None)
Told (Ok x) c r = (number_of c.layout ≡ 0) × Answers x (behind_of c.layout c.entries r)

-- What an accepted message has: it fits the room, its bytes lie in the source, and the table allows it.
pub record Addable (F : Format) (size len : ℕ) (m : Message) (source : ℕ) : Type 0 where
  pub fits : len + size_of F m ≤ max_size
  pub room : max_size ≤ size
  pub can : writable F source m ≡ true
  pub good : allowed F m ≡ true
