-- Taking in a datagram (01, "Datagrams", the effects; "Numbers given back"; 02, No. 2 and No. 3). Assumes nothing.
use Rattle.std.specs.Prelude.{ℕ, ◌+◌, ◌-◌, ◌%◌, ◌^◌, Bool, false, List, length, ◌==◌}
use Rattle.hash.proofs.Promise.{same}
use Rattle.base.specs.Pick.{pick}
use Rattle.wire.proofs.Promise.{be32, placed, min_size, Checked, layout_of}
use Rattle.wire.specs.declared.message.Options.{Options}
use Rattle.wire.specs.declared.message.Options.TheVariants.{Fixed, EndOnly, Other}
use Rattle.wire.proofs.Promise.{Layout, Fault, HandshakeAlone, Messages, MessagesAndData}
use Rattle.writer.proofs.Promise.{within, Item, read_all}
use Rattle.effects.proofs.Promise.{any_past, Peer, peer_of, effects}
use Rattle.replies.proofs.Promise.{ack_reply}
use Rattle.held.proofs.Promise.{complete_interval}
use Rattle.wire.specs.declared.range.Range.{Range}
use Rattle.table.specs.declared.rows.Row.{Row}
use Rattle.table.proofs.Promise.{row_of, row_at, row_after, put_row, messages_answer, handshake_answer}
use Rattle.store.proofs.Promise.{Rooms, earlier, integrity_of, take_spec as store_take}
use Rattle.channel.specs.World.{Channels, channels_of, World, Out, out_of, unless_at, unless, beside}
use Rattle.channel.specs.World.{order_root, order_length, order_format, chunk_count, table_rows, row_bit}
use Rattle.channel.specs.Answers.{own_rooms_answer}
use Rattle.channel.specs.Opening.{opened_row, occupied}

-- The row that a datagram s goes to, by its destination.
abbrev pub row_for : List ℕ → (s : List ℕ) → ℕ
row_for st s = row_of (table_rows st) (be32 s 0)

-- ---- a HANDSHAKE

-- "An opening or answering HANDSHAKE carries exactly the bytes .., the root, ..": its options are the fixed ones around
-- the order's root.
unfoldable pub ours : (root s : List ℕ) → Options → Bool
ours root s (Fixed p) = same (within s p 32) root
ours root s EndOnly = false
ours root s Other = false

-- A HANDSHAKE: to channel 0 it opens a channel under the ID that was passed; else it changes the row that it goes to.
-- 5, 3, 4, 14 and 6 before that.
unfoldable pub handshake_taken : Channels → (id : ℕ) (s : List ℕ) (source : ℕ) → Options → Out Channels
handshake_taken ch id s source o =
    unless (handshake_answer (table_rows ch.state) (be32 s 0) source (ours (order_root ch.state) s o) id) ch
    (pick (be32 s 0 == 0)
    (occupied ch (opened_row id source))
    (out_of 0 0 (channels_of
    (put_row ch.state (row_for ch.state s) (row_after (row_at (table_rows ch.state) (row_for ch.state s)) source))
    ch.has
    ch.wants
    ch.reply)))

-- ---- other messages

-- The layout of a datagram, and its messages, under the order's method.
abbrev pub layout_in : List ℕ → (s : List ℕ) → Checked
layout_in st s = layout_of (order_format st) s

abbrev pub messages_in : List ℕ → (s : List ℕ) → List Item
messages_in st s = read_all (order_format st) s

-- 5 and 3 by the table, then 7 for chunks past N-1. A datagram of four bytes has no message: a keepalive.
unfoldable pub messages_number : List ℕ → (s : List ℕ) → ℕ
messages_number st s =
    earlier
    (messages_answer (table_rows st) (be32 s 0) (length s == min_size))
    (pick (any_past (order_format st) (chunk_count st) (messages_in st s)) 7 0)

-- The rooms for has and wants, and the choke mark of the row that the messages go to, after their effects.
abbrev pub peer_after : Channels → (s : List ℕ) → Peer
peer_after ch s =
    effects (chunk_count ch.state) (row_bit (chunk_count ch.state) (row_for ch.state s)) (messages_in ch.state s)
    (peer_of ch.has ch.wants (row_at (table_rows ch.state) (row_for ch.state s)).choked)

-- A row with another choke mark.
abbrev pub with_mark : Row → Bool → Row
with_mark r choked = record { phase = r.phase; id = r.id; peer = r.peer; choked = choked }

-- The channels after the effects of the messages.
unfoldable pub affected : Channels → (s : List ℕ) → Channels
affected ch s =
    channels_of
    (put_row ch.state (row_for ch.state s)
    (with_mark (row_at (table_rows ch.state) (row_for ch.state s)) (peer_after ch s).choked))
    (peer_after ch s).has
    (peer_after ch s).wants
    ch.reply

-- Messages without DATA: their effects, and no reply.
unfoldable pub messages_taken : Channels → (s : List ℕ) → Out Channels
messages_taken ch s = unless (messages_number ch.state s) ch (out_of 0 0 (affected ch s))

-- ---- DATA

-- "its delay the clock minus the timestamp modulo 2^64".
abbrev pub delay : (clock timestamp : ℕ) → ℕ
delay clock timestamp = (clock + 2 ^ 64 - timestamp) % 2 ^ 64

-- What an ACK of chunk c names: "the biggest complete interval that covers it" (02, No. 2), of the chunks in the map.
abbrev pub acknowledged : (st map : List ℕ) (c : ℕ) → Range
acknowledged st map c = complete_interval (order_format st) map (chunk_count st) c

-- "Stored DATA is answered by one ACK", which names that, to the peer of the channel that it came on.
abbrev pub acknowledgement : (st map s : List ℕ) (clock c timestamp : ℕ) → List ℕ
acknowledgement st map s clock c timestamp =
    ack_reply (order_format st) (row_at (table_rows st) (row_for st s)).peer
    (acknowledged st map c).first (acknowledged st map c).last (delay clock timestamp)

-- The channels with a reply.
abbrev pub replied : Channels → (r : List ℕ) → Channels
replied ch r = channels_of ch.state ch.has ch.wants (placed ch.reply 0 r)

-- What taking the n bytes from `start` on as chunk c gives and leaves of the chunk rooms; `entries` has the nodes of
-- the INTEGRITY messages and the places of their hashes.
abbrev pub store_out : World → (s entries : List ℕ) (c start n : ℕ) → Out Rooms
store_out w s entries c start n =
    store_take w.rooms (order_root w.channels.state) (order_length w.channels.state) c (within s start n)
    (integrity_of entries s)

-- Messages with DATA that are taken: these chunk rooms, the effects of the messages, and a reply.
abbrev pub answered : Channels → (s : List ℕ) → Rooms → (r : List ℕ) → Out World
answered ch s rooms r = out_of 0 (length r) (record { rooms = rooms; channels = replied (affected ch s) r })

-- DATA by that: refused with 8, or with 9 or 10 and the node that it names; or taken, and answered with the ACK of what
-- the map has afterwards.
unfoldable pub data_by : World → (clock : ℕ) (s : List ℕ) (c timestamp : ℕ) → Out Rooms → Out World
data_by w clock s c timestamp out =
    unless_at out.answer out.node w
    (answered w.channels s out.after (acknowledgement w.channels.state out.after.map s clock c timestamp))

-- Messages with DATA: 5, 3 and 7 come before that.
unfoldable pub data_taken : World → (clock : ℕ) (s entries : List ℕ) (c timestamp start n : ℕ) → Out World
data_taken w clock s entries c timestamp start n =
    unless (messages_number w.channels.state s) w (data_by w clock s c timestamp (store_out w s entries c start n))

-- ---- any datagram

-- By its layout, which has the numbers 1, 2 and 3.
unfoldable pub by_layout : World → (clock id : ℕ) (s : List ℕ) → Layout → Out World
by_layout w clock id s (Fault n) = out_of n 0 w
by_layout w clock id s (HandshakeAlone source o) = beside w.rooms (handshake_taken w.channels id s source o)
by_layout w clock id s (Messages k) = beside w.rooms (messages_taken w.channels s)
by_layout w clock id s (MessagesAndData c timestamp start n k) =
    data_taken w clock s (layout_in w.channels.state s).entries c timestamp start n

-- Taking in a datagram s at a clock, with the ID for a channel that it may open: 12 and 11, then by its layout.
unfoldable pub take_spec : World → (clock id : ℕ) (s : List ℕ) → Out World
take_spec w clock id s = unless (own_rooms_answer w) w (by_layout w clock id s (layout_in w.channels.state s).layout)
