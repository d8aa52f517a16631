-- Demand 2 of the calls: a datagram that was taken writes back to the same bytes, and whatever reply a call leaves passes the
-- checks and reads back as its messages. Assumes nothing.
use Rattle.std.proofs.Common.{◌≡◌, ℕ, ◌+◌, ◌-◌, ◌*◌, ◌^◌, ◌<◌, ◌≤◌, Bool, true, false, eqb, ◌≢◌, ◌⊎◌, List, length, take, drop, sym, refl, ap, ◌∙◌, inl, inr, true≢false, mod-lt, arith, length-take, get_or-drop, eq-eqb, eqb-true}
use mathlib.Core.Option.{none, some}
use Rattle.hash.proofs.Promise.{Words, bytes-length}
use Rattle.base.specs.Pick.{pick}
use Rattle.table.proofs.Promise.{order_in, root-eight, peer-fits, row_at, open_row_of, open_answer, handshake_answer, write_answer, open_some, handshake-opened, handshake_taken_lem}
use Rattle.table.specs.declared.rows.Row.{Row}
use Rattle.tree.proofs.Promise.{chunk_size, max_length, chunks, chunk_some}
use Rattle.wire.proofs.Promise.{be32, placed, min_size, max_size, number_of, layout_of, Numbered, handshake_fault, Alone, layout_numbered, layout_passed, layout-alone}
use Rattle.wire.specs.declared.message.Options.{Options}
use Rattle.wire.specs.declared.message.Options.TheVariants.{Fixed, EndOnly, Other}
use Rattle.wire.proofs.Promise.{Layout, Fault, HandshakeAlone, Messages, MessagesAndData}
use Rattle.writer.proofs.Promise.{Item, AreBytes, be32-fits, Reads, Plain, rewritable, write_all, datagram_of, round_trip_read}
use Rattle.replies.proofs.Promise.{handshake_items, handshake_reply, chunk_items, chunk_reply, handshake-long, chunk-fits, handshake_reads, ack_reads, chunk_reads}
use Rattle.store.proofs.Promise.{earlier, both_zero, chunk_in, length_answer, length_accepted}
use Rattle.channel.specs.World.{Channels, World, Out, out_of, beside, order_root, order_length, chunk_count, table_rows, order_format}
use Rattle.channel.specs.Answers.{own_rooms_answer}
use Rattle.channel.specs.Opening.{calling_row, opened_row, occupied, open_number, open_spec}
use Rattle.channel.specs.Take.{row_for, ours, handshake_taken, messages_number, messages_taken, delay, acknowledged, data_taken, by_layout, take_spec, layout_in, messages_in}
use Rattle.channel.specs.Write.{held_answer, write_number, write_spec}
use Rattle.channel.specs.Reply.{reply_of, open_reply, take_reply, write_reply, Replies}
use Rattle.base.proofs.OutLaws.{unless-zero}
use Rattle.channel.proofs.AcceptLaws.{own_accepted}
use Rattle.channel.proofs.AckLaws.{front, data-left, data-biggest}
use Rattle.channel.proofs.WriteLaws.{held-inside}
use Rattle.format.specs.declared.Format.{Format}

-- ---- a datagram that was taken writes back

closes : (x : Bool) → ◌≡◌ {A = ℕ} (pick x 3 (pick false 0 3)) 0 → ⊥
closes true e = omega arith
closes false e = omega arith

-- One with other options is not taken: the layout has none that closes, and the table refuses any other.
other_never : (ch : Channels) (id : ℕ) (s : List ℕ) (a : ℕ) → Alone s (HandshakeAlone a Other) → (handshake_taken ch id s a Other).answer ≡ 0 → ⊥
unfolding handshake_taken ours handshake_fault
other_never ch id s a q z =
    go (handshake_taken_lem (table_rows ch.state) (be32 s 0) a false id (unless-zero (handshake_answer (table_rows ch.state) (be32 s 0) a false id) ch _ z).0)
  where
    go : (false ≡ true) ⊎ (a ≡ 0) → ⊥
    go (inl e) = true≢false (sym e)
    go (inr e) = closes (eqb (be32 s 0) 0) (rw (eq-eqb a 0 e) at q.0)

options_taken : (ch : Channels) (id : ℕ) (s : List ℕ) (a : ℕ) (o : Options) → Alone s (HandshakeAlone a o) → (handshake_taken ch id s a o).answer ≡ 0 → Plain (HandshakeAlone a o)
options_taken ch id s a (Fixed r) q z = tt
options_taken ch id s a EndOnly q z = tt
options_taken ch id s a Other q z = absurd (other_never ch id s a q z)

layout_taken : (w : World) (clock id : ℕ) (s : List ℕ) (l : Layout) → Numbered l → Alone s l → (by_layout w clock id s l).answer ≡ 0 → (number_of l ≡ 0) × Plain l
unfolding by_layout
layout_taken w clock id s (Fault n) h q z = absurd (omega (arith, h.0, z))
layout_taken w clock id s (HandshakeAlone a o) h q z = (refl, options_taken w.channels id s a o q z)
layout_taken w clock id s (Messages k) h q z = (refl, tt)
layout_taken w clock id s (MessagesAndData c x b n k) h q z = (refl, tt)

pub taken_writes_back : (w : World) (clock id : ℕ) (s room : List ℕ) → AreBytes s → (take_spec w clock id s).answer ≡ 0 → max_size ≤ length room
    → (write_all (order_format w.channels.state) room (be32 s 0) (messages_in w.channels.state s) ≡ out_of 0 (length s) (placed room 0 s))
    × (datagram_of (write_all (order_format w.channels.state) room (be32 s 0) (messages_in w.channels.state s)) ≡ s)
unfolding take_spec
taken_writes_back w clock id s room small z big =
    let F = order_format w.channels.state in
    let l = (layout_of F s).layout in
    let t = (unless-zero (own_rooms_answer w) w (by_layout w clock id s l) z).1 in
    let p = layout_taken w clock id s l (layout_numbered F s) (layout-alone F s) t in
    let e = round_trip_read F room s small big p.0 (rewritable l p.1) in
    (e, ap datagram_of e ∙ front room s (omega (arith, (layout_passed F s p.0).1)))

-- ---- a reply reads back

-- From the front of the reply room.
reads_front : (F : Format) (room r : List ℕ) (to : ℕ) (is : List Item) → length r ≤ length room → Reads F r to is → Reads F (take (length r) (placed room 0 r)) to is
reads_front F room r to is h x = rw (front room r h) x

module _ (w : World) (small : Words w.channels.state) where
  root-long : length (order_root w.channels.state) ≡ 32
  root-long = bytes-length (order_in w.channels.state).root.words ∙ ap (λ (n : ℕ). 4 * n) (root-eight w.channels.state)

  few-chunks : length_answer (order_length w.channels.state) ≡ 0 → chunk_count w.channels.state ≤ chunks chunk_size max_length
  few-chunks z = let a = (length_accepted (order_length w.channels.state) z).1 in omega arith

  -- Our HANDSHAKE from a channel of ours.
  occupied-reads : (id peer : ℕ) (r : Row) → r.id ≡ id → r.peer ≡ peer → id < 2 ^ 32 → id ≢ 0 → peer < 2 ^ 32 → max_size ≤ length w.channels.reply
      → Replies (order_format w.channels.state) (beside w.rooms (occupied w.channels r)) (some (reply_of peer (handshake_items id (order_root w.channels.state))))
  unfolding occupied
  occupied-reads id peer r ie pe h d p big =
      let root = order_root w.channels.state in
      let F = order_format w.channels.state in
      rw (ie, pe) (reads_front (order_format w.channels.state) w.channels.reply (handshake_reply F peer id root) peer (handshake_items id root) (omega (arith, handshake-long F peer id root root-long)) (handshake_reads F peer id root p h d root-long))

  pub open_reads : (id : ℕ) → id < 2 ^ 32 → (open_spec w id).answer ≡ 0 → Replies (order_format w.channels.state) (open_spec w id) (some (open_reply w.channels.state id))
  unfolding open_spec
  open_reads id h z =
      let n = (unless-zero (open_number w id) w _ z).0 in
      let p = both_zero (own_rooms_answer w) (open_answer (table_rows w.channels.state) id) n in
      rw n (occupied-reads id 0 (calling_row id) refl refl h (open_some (table_rows w.channels.state) id p.1) (omega arith) (own_accepted w p.0).2)

  -- A HANDSHAKE to channel 0 opens one; any other has no reply.
  opened-or-not : (id : ℕ) (s : List ℕ) (a : ℕ) → id < 2 ^ 32 → a < 2 ^ 32 → max_size ≤ length w.channels.reply → (other : Out Channels) → other.len ≡ 0
      → (b : Bool) → eqb (be32 s 0) 0 ≡ b → (be32 s 0 ≡ 0 → id ≢ 0)
      → Replies (order_format w.channels.state) (beside w.rooms (pick b (occupied w.channels (opened_row id a)) other)) (pick b (some (reply_of a (handshake_items id (order_root w.channels.state)))) none)
  opened-or-not id s a h p big other e true f d = occupied-reads id a (opened_row id a) refl refl h (d (eqb-true (be32 s 0) 0 f)) p big
  opened-or-not id s a h p big other e false f d = e

  handshake-replies : (id : ℕ) (s : List ℕ) (a : ℕ) (o : Options) → id < 2 ^ 32 → a < 2 ^ 32 → max_size ≤ length w.channels.reply → (handshake_taken w.channels id s a o).answer ≡ 0
      → Replies (order_format w.channels.state) (beside w.rooms (handshake_taken w.channels id s a o)) (pick (eqb (be32 s 0) 0) (some (reply_of a (handshake_items id (order_root w.channels.state)))) none)
  unfolding handshake_taken
  handshake-replies id s a o h p big z =
      let rs = table_rows w.channels.state in
      let mine = ours (order_root w.channels.state) s o in
      let n = (unless-zero (handshake_answer rs (be32 s 0) a mine id) w.channels _ z).0 in
      rw n (opened-or-not id s a h p big _ refl (eqb (be32 s 0) 0) refl (λ e. handshake-opened rs (be32 s 0) a mine id e n))

  data-replies : (clock : ℕ) (s entries : List ℕ) (c timestamp start n : ℕ) → length_answer (order_length w.channels.state) ≡ 0 → max_size ≤ length w.channels.reply
      → (data_taken w clock s entries c timestamp start n).answer ≡ 0 → (id k : ℕ)
      → Replies (order_format w.channels.state) (data_taken w clock s entries c timestamp start n)
      (take_reply w.channels.state (data_taken w clock s entries c timestamp start n).after.rooms.map clock id s (MessagesAndData c timestamp start n k))
  data-replies clock s entries c timestamp start n limit big z id k =
      let st = w.channels.state in
      let v = acknowledged st (data_taken w clock s entries c timestamp start n).after.rooms.map c in
      let b = (data-biggest w clock s entries c timestamp start n z limit).complete in
      let few = few-chunks limit in
      rw (data-left w clock s entries c timestamp start n z big)
      (ack_reads (order_format st) (row_at (table_rows st) (row_for st s)).peer v.first v.last (delay clock timestamp) (peer-fits st small (row_for st s))
      (omega (arith, b.covers)) (omega (arith, b.inside, few)) (mod-lt (clock + 2 ^ 64 - timestamp) (omega arith)) b.named (omega (arith, b.inside, b.covers, few)))

  layout-replies : (clock id : ℕ) (s : List ℕ) (l : Layout) → Numbered l → Alone s l → AreBytes s → id < 2 ^ 32 → own_rooms_answer w ≡ 0 → (by_layout w clock id s l).answer ≡ 0
      → Replies (order_format w.channels.state) (by_layout w clock id s l) (take_reply w.channels.state (by_layout w clock id s l).after.rooms.map clock id s l)
  unfolding by_layout messages_taken
  layout-replies clock id s (Fault n) h q bytes i e z = refl
  layout-replies clock id s (HandshakeAlone a o) h q bytes i e z = handshake-replies id s a o i (rw q.1 (be32-fits (drop min_size s) (λ k. rw (get_or-drop min_size s k 0) (bytes (min_size + k))) 1)) (own_accepted w e).2 z
  layout-replies clock id s (Messages k) h q bytes i e z = let n = (unless-zero (messages_number w.channels.state s) w.channels _ z).0 in rw n refl
  layout-replies clock id s (MessagesAndData c x b n k) h q bytes i e z = data-replies clock s (layout_in w.channels.state s).entries c x b n (own_accepted w e).0 (own_accepted w e).2 z id k

  pub take_reads : (clock id : ℕ) (s : List ℕ) → AreBytes s → id < 2 ^ 32 → (take_spec w clock id s).answer ≡ 0
      → Replies (order_format w.channels.state) (take_spec w clock id s) (take_reply w.channels.state (take_spec w clock id s).after.rooms.map clock id s (layout_in w.channels.state s).layout)
  unfolding take_spec
  take_reads clock id s bytes i z =
      let F = order_format w.channels.state in
      let l = (layout_of F s).layout in
      let p = unless-zero (own_rooms_answer w) w (by_layout w clock id s l) z in
      rw p.0 (layout-replies clock id s l (layout_numbered F s) (layout-alone F s) bytes i p.0 p.1)

  pub write_reads : (id c clock : ℕ) → clock < 2 ^ 64 → (write_spec w id c clock).answer ≡ 0 → Replies (order_format w.channels.state) (write_spec w id c clock) (some (write_reply w id c clock))
  unfolding write_spec
  write_reads id c clock h z =
      let st = w.channels.state in
      let L = order_length st in
      let N = chunk_count st in
      let rs = table_rows st in
      let peer = (row_at rs (open_row_of rs id)).peer in
      let bytes = chunk_in L w.rooms.bytes c in
      let n = (unless-zero (write_number w id c) w _ z).0 in
      let p = both_zero (own_rooms_answer w) (earlier (write_answer rs id) (held_answer N c w.rooms.map)) n in
      let q = both_zero (write_answer rs id) (held_answer N c w.rooms.map) p.1 in
      let inside = held-inside N c w.rooms.map q.1 in
      let say = own_accepted w p.0 in
      let few = few-chunks say.0 in
      let F = order_format st in
      let short : length bytes ≤ chunk_size = simp length-take (omega (arith, chunk_some chunk_size L (omega arith) c inside)) in
      rw n
      (reads_front (order_format w.channels.state) w.channels.reply (chunk_reply F w.rooms.hashes peer N c clock bytes) peer (chunk_items w.rooms.hashes N c clock bytes)
      (omega (arith, chunk-fits F w.rooms.hashes peer N c clock bytes few short, say.2))
      (chunk_reads F w.rooms.hashes peer N c clock bytes (peer-fits st small (open_row_of rs id)) inside h few short))
