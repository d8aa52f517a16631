-- Lists of messages, added one after another and read from a datagram: what the two round trips of demand 2 speak of.
-- Assumes nothing.
use Rattle.std.specs.Prelude.{ℕ, zero, suc, ◌<◌, ◌^◌, List, [], ◌∷◌, ◌++◌, map, length, get_or, take, eqb, ◌≡◌, ◌≢◌}
use Rattle.base.specs.Pick.{pick}
use Rattle.base.specs.Out.{Out, out_of}
use Rattle.format.specs.declared.Format.{Format}
use Rattle.wire.specs.Bytes.{be32}
use Rattle.wire.specs.Limits.{min_size}
use Rattle.wire.specs.Read.{step_at}
use Rattle.wire.specs.Layout.{number_of, layout_of}
use Rattle.wire.specs.declared.message.Options.TheVariants.{Fixed, EndOnly, Other}
use Rattle.wire.specs.declared.message.Message.{Message}
use Rattle.wire.specs.declared.message.Message.TheVariants.{Handshake, Data, Ack, Have, Integrity, Request, Cancel, Choke, Unchoke, Empty}
use Rattle.wire.specs.declared.message.Step.{Step}
use Rattle.wire.specs.declared.message.Step.TheVariants.{Read, End, Refused}
use Rattle.wire.specs.Layout.{Layout}
use Rattle.wire.specs.Layout.{HandshakeAlone}
use Rattle.writer.specs.Message.{within, bytes_of}
use Rattle.writer.specs.Add.{begin_spec, add_spec}

-- A message, and the bytes that its hash, chunk or root is taken from.
pub record Item : Type 0 where
  pub source : List ℕ
  pub message : Message

abbrev pub item_of : List ℕ → Message → Item
item_of s m = record { source = s; message = m }

-- The bytes of messages, one after another.
abbrev pub encode : Format → List Item → List ℕ
encode F [] = []
encode F (i ∷ is) = bytes_of F i.source i.message ++ encode F is

-- The numbers of a message have the widths of the table: 32 bits for channels and chunks, 64 for timestamps and delays.
abbrev pub HasWidths : Message → Type 0
HasWidths (Handshake a o) = a < 2 ^ 32
HasWidths (Data f l x b n) = (f < 2 ^ 32) × (l < 2 ^ 32) × (x < 2 ^ 64)
HasWidths (Ack f l d) = (f < 2 ^ 32) × (l < 2 ^ 32) × (d < 2 ^ 64)
HasWidths (Have f l) = (f < 2 ^ 32) × (l < 2 ^ 32)
HasWidths (Integrity f l h) = (f < 2 ^ 32) × (l < 2 ^ 32)
HasWidths (Request f l) = (f < 2 ^ 32) × (l < 2 ^ 32)
HasWidths (Cancel f l) = (f < 2 ^ 32) × (l < 2 ^ 32)
HasWidths Choke = Unit {0}
HasWidths Unchoke = Unit {0}
HasWidths (Empty k) = Unit {0}

abbrev pub AllHaveWidths : List Item → Type 0
AllHaveWidths [] = Unit {0}
AllHaveWidths (i ∷ is) = HasWidths i.message × AllHaveWidths is

-- Each of a datagram's elements is a byte.
abbrev pub AreBytes : List ℕ → Type 0
AreBytes s = (i : ℕ) → get_or s i 0 < 256

-- A message with its hash, chunk or root alone as its source, at place 0. Equal contents: the same type, numbers and
-- hash, chunk or root; only the place is left out. Options other than the fixed ones and End are not kept; they cannot be
-- added.
abbrev pub content_of : List ℕ → Message → Item
content_of s (Handshake a (Fixed root)) = item_of (within s root 32) (Handshake a (Fixed 0))
content_of s (Handshake a EndOnly) = item_of [] (Handshake a EndOnly)
content_of s (Handshake a Other) = item_of [] (Handshake a Other)
content_of s (Data f l x b n) = item_of (within s b n) (Data f l x 0 n)
content_of s (Ack f l d) = item_of [] (Ack f l d)
content_of s (Have f l) = item_of [] (Have f l)
content_of s (Integrity f l h) = item_of (within s h 32) (Integrity f l 0)
content_of s (Request f l) = item_of [] (Request f l)
content_of s (Cancel f l) = item_of [] (Cancel f l)
content_of s Choke = item_of [] Choke
content_of s Unchoke = item_of [] Unchoke
content_of s (Empty k) = item_of [] (Empty k)

abbrev pub contents_of : List Item → List Item
contents_of is = map (λ (i : Item). content_of i.source i.message) is

-- The messages read from `at` on, at most n, up to the end or a refusal.
abbrev pub on_step : List ℕ → Step → (ℕ → List Item) → List Item
on_step s (Read m next) rest = item_of s m ∷ rest next.at
on_step s End rest = []
on_step s Refused rest = []

unfoldable pub read_from : Format → ℕ → List ℕ → ℕ → List Item
read_from F zero s at = []
read_from F (suc n) s at = on_step s (step_at F s at) (λ next. read_from F n s next)

-- The messages of a datagram.
abbrev pub read_all : Format → List ℕ → List Item
read_all F s = read_from F (length s) s min_size

-- What was written is read: the destination and the same messages, their hashes, chunks and roots included; the datagram
-- passes the checks.
pub record Reads (F : Format) (d : List ℕ) (to : ℕ) (is : List Item) : Type 0 where
  pub to_channel : be32 d 0 ≡ to
  pub messages : contents_of (read_all F d) ≡ contents_of is
  pub passes : number_of (layout_of F d).layout ≡ 0

-- A datagram whose messages can be written: it is no HANDSHAKE with options other than the fixed ones or End alone.
abbrev pub Rewritable : Layout → Type 0
Rewritable l = (source : ℕ) → l ≢ HandshakeAlone source Other

-- What follows a call that was not refused, with the room and the length that it left.
abbrev pub and_then : Out (List ℕ) → (List ℕ → ℕ → Out (List ℕ)) → Out (List ℕ)
and_then r rest = pick (eqb r.answer 0) (rest r.after r.len) r

-- Messages added one after another, up to the first refusal.
abbrev pub add_all : Format → List ℕ → ℕ → List Item → Out (List ℕ)
add_all F room len [] = out_of 0 len room
add_all F room len (i ∷ is) = and_then (add_spec F room len i.message i.source) (λ room' len'. add_all F room' len' is)

-- A datagram begun, and the messages added to it.
abbrev pub write_all : Format → List ℕ → ℕ → List Item → Out (List ℕ)
write_all F room to is = and_then (begin_spec room to) (λ room' len'. add_all F room' len' is)

-- The datagram that a call left.
abbrev pub datagram_of : Out (List ℕ) → List ℕ
datagram_of r = take r.len r.after
