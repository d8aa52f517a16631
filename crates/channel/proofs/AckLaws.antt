-- The ACK that a call leaves: what it names is held in the map as the call left it, and nothing bigger is (02, No. 2).
-- Assumes nothing.
use Rattle.std.proofs.Common.{◌≡◌, ℕ, ◌≤◌, List, length, take, zero-add, arith}
use Rattle.base.proofs.OutLaws.{at_zero, unless-zero}
use Rattle.wire.proofs.Promise.{placed, max_size, place_most, placed-front}
use Rattle.wire.proofs.Promise.{MessagesAndData}
use Rattle.replies.proofs.Promise.{ack-long}
use Rattle.held.proofs.Promise.{Biggest}
use Rattle.table.proofs.Promise.{row_at}
use Rattle.store.proofs.Promise.{length_answer}
use Rattle.channel.specs.World.{World, order_length, order_format, chunk_count, table_rows}
use Rattle.channel.specs.Answers.{own_rooms_answer}
use Rattle.channel.specs.Take.{row_for, messages_number, affected, delay, acknowledged, acknowledgement, store_out}
use Rattle.channel.specs.Take.{data_by, data_taken, by_layout, take_spec, layout_in}
use Rattle.channel.specs.Reply.{left_in, Acknowledges}
use Rattle.channel.proofs.AcceptLaws.{own_accepted}
use Rattle.channel.proofs.DataLaws.{store-held, acknowledged-biggest}

-- What stands at the front of a room.
pub front : (room r : List ℕ) → length r ≤ length room → take (length r) (placed room 0 r) ≡ r
front room r h = rw (zero-add (length r)) at (placed-front room 0 r (omega arith))

module _ (w : World) (clock : ℕ) (s entries : List ℕ) (c timestamp start n : ℕ)
    (z : (data_taken w clock s entries c timestamp start n).answer ≡ 0) where
  -- The reply is the ACK by the map as the call left it,
  pub data-left : max_size ≤ length w.channels.reply → left_in (data_taken w clock s entries c timestamp start n)
      ≡ acknowledgement w.channels.state (data_taken w clock s entries c timestamp start n).after.rooms.map s
      clock c timestamp
  unfolding data_taken data_by affected
  data-left big =
      let st = w.channels.state in
      let p = unless-zero (messages_number st s) w _ z in
      let q = at_zero _ (store_out w s entries c start n).answer w _ p.1 in
      let F = order_format st in
      let map = (store_out w s entries c start n).after.map in
      let v = acknowledged st map c in
      let long = ack-long F (row_at (table_rows st) (row_for st s)).peer v.first v.last (delay clock timestamp) in
      rw (p.0, q.0)
      (front w.channels.reply (acknowledgement st map s clock c timestamp) (omega (arith, long, place_most F, big)))

  -- and what it names is the biggest complete interval in that map.
  pub data-biggest : length_answer (order_length w.channels.state) ≡ 0
      → Biggest (order_format w.channels.state) (data_taken w clock s entries c timestamp start n).after.rooms.map
      (chunk_count w.channels.state) c
      (acknowledged w.channels.state (data_taken w clock s entries c timestamp start n).after.rooms.map c)
  unfolding data_taken data_by
  data-biggest limit =
      let st = w.channels.state in
      let p = unless-zero (messages_number st s) w _ z in
      let q = at_zero _ (store_out w s entries c start n).answer w _ p.1 in
      let h = store-held w.rooms _ _ c _ _ q.0 in
      rw (p.0, q.0) (acknowledged-biggest st (store_out w s entries c start n).after.map c limit h.0 h.1)

-- Whenever DATA of chunk c is taken.
pub take_acknowledges : (w : World) (clock id : ℕ) (s : List ℕ) {c timestamp start n k : ℕ}
    → (layout_in w.channels.state s).layout ≡ MessagesAndData c timestamp start n k
    → (take_spec w clock id s).answer ≡ 0
    → Acknowledges w.channels.state (row_at (table_rows w.channels.state) (row_for w.channels.state s)).peer c
    (delay clock timestamp) (take_spec w clock id s)
unfolding take_spec by_layout
take_acknowledges w clock id s {c} {timestamp} {start} {n} {k} e z =
    let st = w.channels.state in
    let es = (layout_in st s).entries in
    let p = unless-zero (own_rooms_answer w) w (by_layout w clock id s (layout_in st s).layout) z in
    let t : (data_taken w clock s es c timestamp start n).answer ≡ 0 = rw e at p.1 in
    let fits = own_accepted w p.0 in
    rw (p.0, e) (record {
      chunks = acknowledged st (data_taken w clock s es c timestamp start n).after.rooms.map c;
      reply = data-left w clock s es c timestamp start n t fits.2;
      biggest = data-biggest w clock s es c timestamp start n t fits.0;
    })
