-- What the crates above know of this one: of its definitions the names passed on here, which numbers a call can give, that a
-- refused one alters nothing, demand 2 of what is taken and sent, what an ACK names, and the node that 9 and 10 name. Assumes
-- nothing.
use Rattle.std.proofs.Common.{◌≡◌, ℕ, ◌^◌, ◌<◌, ◌≤◌, true, List, [], ◌∷◌, length, refl}
use mathlib.Core.Option.{some}
use Rattle.base.specs.Among.{among, OneOf}
use Rattle.base.proofs.OutLaws.{named_back}
use Rattle.std.specs.Prelude.{None}
use Rattle.hash.proofs.Promise.{Words}
use Rattle.wire.proofs.Promise.{be32, placed, max_size, layout_of}
use Rattle.writer.proofs.Promise.{AreBytes, read_all, write_all, datagram_of}
use Rattle.store.proofs.Promise.{length_answer, NamesMissing, NamesMissed, named-missing, named-missed}
use Rattle.order.specs.declared.Order.{Order}
use Rattle.channel.proofs.NumberLaws as numbers
use Rattle.channel.proofs.RefusedLaws as refused
use Rattle.channel.proofs.ReplyLaws as reply
use Rattle.channel.proofs.ShorterLaws as shorter
use Rattle.channel.proofs.ReadBackLaws as reading
use Rattle.channel.proofs.AckLaws as acknowledging
use Rattle.channel.proofs.NameLaws as naming
pub use Rattle.channel.specs.World.{Channels, channels_of, World, world_of, Out, out_at, out_of, Unaltered}
pub use Rattle.channel.specs.World.{is_named, named_by, node_number, order_root, order_length, order_format, chunk_count, table_rows}
pub use Rattle.channel.specs.Lent.{rooms_in, channels_in, world_in, Kept}
pub use Rattle.channel.specs.Sizes.{sizes_of, all_answer, own_answer, built_answer}
pub use Rattle.channel.specs.Opening.{open_spec}
pub use Rattle.channel.specs.Starting.{order_of, start_spec, build_spec}
pub use Rattle.channel.specs.Take.{take_spec, row_for, delay}
pub use Rattle.channel.specs.Write.{write_spec}
pub use Rattle.channel.specs.Ask.{Asked, asked_of, asked_by, ask_spec}
pub use Rattle.channel.specs.Named.{Names}
pub use Rattle.channel.specs.Reply.{Reply, reply_of, open_reply, take_reply, write_reply, left_in, Replies, Acknowledges}
pub use Rattle.channel.specs.Adding.{adding_spec}
pub use Rattle.channel.specs.Answers.{method_answer, peer_words, Suffice}
use Rattle.wire.specs.declared.message.Message.{Message}
use Rattle.wire.proofs.Promise.{MessagesAndData}
use Rattle.table.proofs.Promise.{row_at}
use Rattle.format.specs.Format.{is_method}

-- ---- demand 1: the numbers of document 01 that each call can give

pub start_numbered : (w : World) (o : Order) → OneOf (0 ∷ 11 ∷ 12 ∷ []) (start_spec w o).answer
start_numbered = numbers.start-one

pub build_numbered : (w : World) (o : Order) (s : List ℕ) → OneOf (0 ∷ 11 ∷ 12 ∷ []) (build_spec w o s).answer
build_numbered = numbers.build-one

pub open_numbered : (w : World) (id : ℕ) → OneOf (0 ∷ 6 ∷ 11 ∷ 12 ∷ 14 ∷ []) (open_spec w id).answer
open_numbered = numbers.open-one

-- All but 13.
pub take_numbered : (w : World) (clock id : ℕ) (s : List ℕ)
    → OneOf (0 ∷ 1 ∷ 2 ∷ 3 ∷ 4 ∷ 5 ∷ 6 ∷ 7 ∷ 8 ∷ 9 ∷ 10 ∷ 11 ∷ 12 ∷ 14 ∷ []) (take_spec w clock id s).answer
take_numbered = numbers.take-one

pub write_numbered : (w : World) (id c clock : ℕ) → OneOf (0 ∷ 3 ∷ 7 ∷ 11 ∷ 12 ∷ 13 ∷ []) (write_spec w id c clock).answer
write_numbered = numbers.write-one

pub ask_numbered : (st map : List ℕ) → OneOf (0 ∷ 11 ∷ 12 ∷ []) (ask_spec st map).answer
ask_numbered = numbers.ask-one

-- Adding under any number for a method.
pub adding_numbered : (method : ℕ) (room : List ℕ) (len : ℕ) (m : Message) (source : List ℕ)
    → OneOf (0 ∷ 1 ∷ 2 ∷ 3 ∷ 11 ∷ 12 ∷ []) (adding_spec method room len m source).answer
adding_numbered = numbers.adding-one

-- ---- demand 1: a refusal gives a reply length of 0 and changes neither store, channel table nor any lent room

pub start-refused-same : (w : World) (o : Order) → Unaltered w (start_spec w o)
start-refused-same = refused.start_unaltered

pub build-refused-same : (w : World) (o : Order) (s : List ℕ) → Unaltered w (build_spec w o s)
build-refused-same = refused.build_unaltered

pub open-refused-same : (w : World) (id : ℕ) → Unaltered w (open_spec w id)
open-refused-same = refused.open_unaltered

pub take-refused-same : (w : World) (clock id : ℕ) (s : List ℕ) → Unaltered w (take_spec w clock id s)
take-refused-same = refused.take_unaltered

pub write-refused-same : (w : World) (id c clock : ℕ) → Unaltered w (write_spec w id c clock)
write-refused-same = refused.write_unaltered

pub adding-refused-same : (method : ℕ) (room : List ℕ) (len : ℕ) (m : Message) (source : List ℕ) → Unaltered room (adding_spec method room len m source)
adding-refused-same = refused.adding_unaltered

-- ---- a start and a building in rooms of the sizes needed are not refused with 11

pub start_suffices : (w : World) (o : Order) → is_method o.method ≡ true → length_answer o.length ≡ 0 → Suffice o.length w → (start_spec w o).answer ≡ 0
start_suffices = shorter.start_suffices

pub build_suffices : (w : World) (o : Order) (s : List ℕ) → is_method o.method ≡ true → length_answer o.length ≡ 0 → length s ≡ o.length → Suffice o.length w
    → (build_spec w o s).answer ≡ 0
build_suffices = shorter.build_suffices

-- ---- a start: of an order of some length, under a method that a paper gives, and in rooms for a longer one

pub start_some : (w : World) (o : Order) → (start_spec w o).answer ≡ 0 → 0 < o.length
start_some = shorter.start_some

pub start_method : (w : World) (o : Order) → (start_spec w o).answer ≡ 0 → is_method o.method ≡ true
start_method = shorter.start_method

pub build_method : (w : World) (o : Order) (s : List ℕ) → (build_spec w o s).answer ≡ 0 → is_method o.method ≡ true
build_method = shorter.build_method

pub start_shorter : (w : World) (o p : Order) → is_method o.method ≡ true → 0 < o.length → o.length ≤ p.length → (start_spec w p).answer ≡ 0 → (start_spec w o).answer ≡ 0
start_shorter = shorter.start_shorter

-- ---- the reply room stays as long as it is

pub start-reply : (w : World) (o : Order) → length (start_spec w o).after.channels.reply ≡ length w.channels.reply
start-reply = reply.start-reply

pub take-reply : (w : World) (clock id : ℕ) (s : List ℕ) → length (take_spec w clock id s).after.channels.reply ≡ length w.channels.reply
take-reply = reply.take-reply

-- ---- demand 2: "a datagram taken writes back to the same bytes"

-- Begin with its destination and add of the messages read from it, in a room of at least the least size, give exactly its bytes.
pub taken_writes_back : (w : World) (clock id : ℕ) (s room : List ℕ) → AreBytes s → (take_spec w clock id s).answer ≡ 0 → max_size ≤ length room
    → (write_all (order_format w.channels.state) room (be32 s 0) (read_all (order_format w.channels.state) s) ≡ out_of 0 (length s) (placed room 0 s))
    × (datagram_of (write_all (order_format w.channels.state) room (be32 s 0) (read_all (order_format w.channels.state) s)) ≡ s)
taken_writes_back = reading.taken_writes_back

-- ---- demand 2: "What is written reads back as the same messages", of every reply that a call leaves with 0

pub open_reads : (w : World) → Words w.channels.state → (id : ℕ) → id < 2 ^ 32 → (open_spec w id).answer ≡ 0
    → Replies (order_format w.channels.state) (open_spec w id) (some (open_reply w.channels.state id))
open_reads = reading.open_reads

pub take_reads : (w : World) → Words w.channels.state → (clock id : ℕ) (s : List ℕ) → AreBytes s → id < 2 ^ 32 → (take_spec w clock id s).answer ≡ 0
    → Replies (order_format w.channels.state) (take_spec w clock id s)
    (take_reply w.channels.state (take_spec w clock id s).after.rooms.map clock id s (layout_of (order_format w.channels.state) s).layout)
take_reads = reading.take_reads

pub write_reads : (w : World) → Words w.channels.state → (id c clock : ℕ) → clock < 2 ^ 64 → (write_spec w id c clock).answer ≡ 0
    → Replies (order_format w.channels.state) (write_spec w id c clock) (some (write_reply w id c clock))
write_reads = reading.write_reads

-- ---- 02, No. 2: "the biggest complete interval that covers it"

-- Whenever taking in answers 0 for DATA of chunk c, the reply is the ACK of some chunks, every one of them is in the map
-- afterwards, and no interval that the method can name, that covers c and lies in the pack with all its chunks held is bigger.
pub take_acknowledges : (w : World) (clock id : ℕ) (s : List ℕ) {c timestamp start n k : ℕ}
    → (layout_of (order_format w.channels.state) s).layout ≡ MessagesAndData c timestamp start n k → (take_spec w clock id s).answer ≡ 0
    → Acknowledges w.channels.state (row_at (table_rows w.channels.state) (row_for w.channels.state s)).peer c
    (delay clock timestamp) (take_spec w clock id s)
take_acknowledges = acknowledging.take_acknowledges

-- ---- 02, No. 3: "Refusals 9 and 10 must tell the service desk the node .. Other numbers carry no node"

pub start_nameless : (w : World) (o : Order) → (start_spec w o).node ≡ None
start_nameless = naming.start_nameless

pub build_nameless : (w : World) (o : Order) (s : List ℕ) → (build_spec w o s).node ≡ None
build_nameless = naming.build_nameless

pub adding_nameless : (method : ℕ) (room : List ℕ) (len : ℕ) (m : Message) (source : List ℕ) → (adding_spec method room len m source).node ≡ None
adding_nameless = naming.adding_nameless

pub open_nameless : (w : World) (id : ℕ) → (open_spec w id).node ≡ None
open_nameless = naming.open_nameless

pub write_nameless : (w : World) (id c clock : ℕ) → (write_spec w id c clock).node ≡ None
write_nameless = naming.write_nameless

module _ (w : World) (clock id : ℕ) (s : List ℕ) where
  -- Taking in a datagram names a node with 9 and 10, and with no other number.
  pub take-named : is_named (take_spec w clock id s).node ≡ among (9 ∷ 10 ∷ []) (take_spec w clock id s).answer
  take-named = naming.take-named w clock id s

  -- With 9 "the first needed and missing one in 01's sending order",
  pub take-missing : (take_spec w clock id s).answer ≡ 9
      → Names w.channels.state s (take_spec w clock id s).node
      (λ c d o b. NamesMissing (order_length w.channels.state) w.rooms c o b)
  unfolding among
  take-missing = naming.take-names w clock id s 9 refl _ (λ c d o. named-missing w.rooms _ _ c d o)

  -- with 10 "the trusted node missed, the root if the peaks fail".
  pub take-missed : (take_spec w clock id s).answer ≡ 10
      → Names w.channels.state s (take_spec w clock id s).node
      (λ c d o b. NamesMissed (order_length w.channels.state) (order_root w.channels.state) w.rooms c d o b)
  unfolding among
  take-missed = naming.take-names w clock id s 10 refl _ (λ c d o. named-missed w.rooms _ _ c d o)

  -- Its number names it: no node that is named has 2^64 - 1, which stands for none.
  pub take-node : {n : ℕ} → n ≡ node_number (take_spec w clock id s).node → named_by n ≡ (take_spec w clock id s).node
  take-node = named_back (take_spec w clock id s).node (naming.take-small w clock id s)
