-- The replies that 01 and 02 name, as messages and the channel that they go to, 0 or the peer's (01, "Entry points";
-- "Datagrams", the effects; "Writing a chunk"), that a reply reads back as them (00, demand 2: "What is written reads
-- back as the same messages"), and what an ACK says of the map (02, No. 2). Assumes nothing.
use Rattle.std.specs.Prelude.{◌≡◌, ℕ, List, take, ◌==◌}
use Rattle.std.proofs.Math.Option.{Option, none, some}
use Rattle.base.specs.Pick.{pick}
use Rattle.format.specs.declared.Format.{Format}
use Rattle.wire.proofs.Promise.{be32}
use Rattle.wire.proofs.Promise.{Layout, Fault, HandshakeAlone, Messages, MessagesAndData}
use Rattle.writer.proofs.Promise.{Item, Reads}
use Rattle.replies.proofs.Promise.{handshake_items, ack_items, ack_reply, chunk_items}
use Rattle.held.proofs.Promise.{Biggest}
use Rattle.wire.specs.declared.range.Range.{Range}
use Rattle.table.proofs.Promise.{open_row_of, row_at}
use Rattle.store.proofs.Promise.{chunk_in}
use Rattle.channel.specs.World.{World, Out, order_root, order_length, order_format, chunk_count, table_rows}
use Rattle.channel.specs.Take.{row_for, acknowledged, delay}

-- A reply: the channel that it goes to, and its messages.
pub record Reply : Type 0 where
  pub to : ℕ
  pub items : List Item

abbrev pub reply_of : ℕ → List Item → Reply
reply_of to items = record { to = to; items = items }

-- Opening a channel: "the reply is our HANDSHAKE to channel 0".
abbrev pub open_reply : List ℕ → (id : ℕ) → Reply
open_reply st id = reply_of 0 (handshake_items id (order_root st))

-- Taking in a datagram s of this layout, which leaves this map: a HANDSHAKE to channel 0 is answered by ours, DATA by
-- "one ACK .., its delay the clock minus the timestamp", of "the biggest complete interval that covers" its chunk; both
-- go "to the peer's source channel". No other has a reply.
abbrev pub take_reply : (st map : List ℕ) (clock id : ℕ) (s : List ℕ) → Layout → Option Reply
take_reply st map clock id s (Fault n) = none
take_reply st map clock id s (HandshakeAlone source o) =
    pick (be32 s 0 == 0) (some (reply_of source (handshake_items id (order_root st)))) none
take_reply st map clock id s (Messages k) = none
take_reply st map clock id s (MessagesAndData c timestamp start n k) =
    some (reply_of (row_at (table_rows st) (row_for st s)).peer
    (ack_items (acknowledged st map c).first (acknowledged st map c).last (delay clock timestamp)))

-- Writing chunk c: the hashes that go out with it, as the hash room has them, then DATA with the given clock.
abbrev pub write_reply : World → (id c clock : ℕ) → Reply
write_reply w id c clock =
    reply_of (row_at (table_rows w.channels.state) (open_row_of (table_rows w.channels.state) id)).peer
    (chunk_items w.rooms.hashes (chunk_count w.channels.state) c clock
    (chunk_in (order_length w.channels.state) w.rooms.bytes c))

-- The reply that a call left: the first bytes of its reply room, as many as it says.
abbrev pub left_in : Out World → List ℕ
left_in o = take o.len o.after.channels.reply

-- It passes the checks under a format and reads back as these messages, to this channel; where there is none, its
-- length is 0.
abbrev pub Replies : Format → Out World → Option Reply → Type 0
Replies F o none = o.len ≡ 0
Replies F o (some r) = Reads F (left_in o) r.to r.items

-- ---- an ACK

-- The call left as its reply the ACK of some chunks with a delay, to this channel; and in the map as the call left it,
-- they are the biggest complete interval that covers chunk c (02, No. 2).
pub record Acknowledges (st : List ℕ) (to c late : ℕ) (o : Out World) : Type 0 where
  pub chunks : Range
  pub reply : left_in o ≡ ack_reply (order_format st) to chunks.first chunks.last late
  pub biggest : Biggest (order_format st) o.after.rooms.map (chunk_count st) c chunks
