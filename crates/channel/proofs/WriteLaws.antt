-- Writing the datagram of a chunk, return by return as the code has them. Assumes nothing.
use Rattle.std.proofs.Common.{◌≡◌, ℕ, ◌+◌, ◌-◌, ◌*◌, ◌<◌, ◌≤◌, ltb, leb, List, length, take, drop, sym, ap, ◌∙◌, ap₂, arith, length-take, leb-false}
use Rattle.tree.proofs.Promise.{chunk_size, chunks, max_length, size, chunk_inside, chunk_some}
use Rattle.wire.proofs.Promise.{placed, max_size}
use Rattle.table.specs.declared.rows.Row.{Row}
use Rattle.table.proofs.Promise.{open_row_of, row_at, write_answer}
use Rattle.replies.proofs.Promise.{chunk_reply}
use Rattle.store.proofs.Promise.{rooms_answer, passed, both_zero, order_accepted, length_accepted, rooms_accepted}
use Rattle.channel.specs.World.{World, channels_of, Out, out_of, order_length, chunk_count, table_rows, order_format}
use Rattle.channel.specs.Answers.{channels_answer, own_rooms_answer}
use Rattle.channel.specs.Write.{held_answer, write_number, chunk_datagram, write_spec}
use Rattle.base.proofs.OutLaws.{unless-done}
use Rattle.channel.proofs.AcceptLaws.{channel_rooms_accepted}
use Rattle.table.proofs.Promise.{state_words}
use Rattle.format.specs.declared.Format.{Format}

-- ---- the chunk

-- Neither 7 nor 13: it is one of the pack.
pub held-inside : (N c : ℕ) (map : List ℕ) → held_answer N c map ≡ 0 → c < N
unfolding held_answer
held-inside N c map e = leb-false N c (passed (leb N c) 6 _ e).0

-- A length within the limit has no more chunks than the limit.
count-within : (L : ℕ) → L ≤ max_length → chunks chunk_size L ≤ chunks chunk_size max_length
count-within L h = omega arith

-- ---- the call

-- The bytes from chunk c on, up to its end m bytes behind.
abbrev pub handed : List ℕ → ℕ → ℕ → List ℕ
handed s c m = take (chunk_size * c + m - chunk_size * c) (drop (chunk_size * c) s)

-- What the number 0 says of chunk c and its size m: where it lies, and that its datagram can be written.
pub record Writable (w : World) (N c m : ℕ) : Type 0 where
  pub inside : chunk_size * c + m ≤ length w.rooms.bytes
  pub fits : max_size ≤ length w.channels.reply
  pub count : N ≤ chunks chunk_size max_length
  pub short : length (handed w.rooms.bytes c m) ≤ chunk_size
  pub one : c < N

module _ (w : World) (id c clock N : ℕ) (ne : N ≡ chunk_count w.channels.state) (z : own_rooms_answer w ≡ 0)
    (he : 0 ≡ held_answer N c w.rooms.map) (m : ℕ) (me : m ≡ size chunk_size (order_length w.channels.state) c) where
  -- A call that is not refused: the chunk lies in its room, and the reply room is large enough.
  pub write-facts : Writable w N c m
  write-facts =
      let L = order_length w.channels.state in
      let i = held-inside N c w.rooms.map (sym he) in
      let r = both_zero (rooms_answer L w.rooms) (channels_answer L w.channels) (passed (ltb (length w.channels.state) state_words) 10 _ z).1 in
      let s = order_accepted L (length w.rooms.bytes) (length w.rooms.map) (length w.rooms.hashes) (length w.rooms.trusted) r.0 in
      let t = rooms_accepted L w.rooms r.0 in
      let j : c < chunks chunk_size L = rw ne at i in record {
        inside = omega (arith, me, t.bytes_in, chunk_inside chunk_size L (omega arith) c j);
        fits = (channel_rooms_accepted L (length w.channels.state) (length w.channels.has) (length w.channels.wants) (length w.channels.reply) r.1).3;
        count = rw ne (count-within L (length_accepted L s.0).1);
        short = simp length-take (omega (arith, me, chunk_some chunk_size L (omega arith) c j));
        one = i;
      }

  -- The bytes handed over are the chunk's, so that the reply is its datagram.
  pub write_done : 0 ≡ write_answer (table_rows w.channels.state) id → (r : Row) {i n : ℕ} {F : Format} {reply : List ℕ}
      → F ≡ order_format w.channels.state → r ≡ row_at (table_rows w.channels.state) i → i ≡ open_row_of (table_rows w.channels.state) id
      → (n ≡ length (chunk_reply F w.rooms.hashes r.peer N c clock (handed w.rooms.bytes c m)))
      × (reply ≡ placed w.channels.reply 0 (chunk_reply F w.rooms.hashes r.peer N c clock (handed w.rooms.bytes c m)))
      → out_of 0 n (record { rooms = w.rooms; channels = channels_of w.channels.state w.channels.has w.channels.wants reply }) ≡ write_spec w id c clock
  unfolding write_spec
  write_done be r {F = F} fe re ie e =
      let q : chunk_size * c + m - chunk_size * c ≡ size chunk_size (order_length w.channels.state) c = omega (arith, me) in
      let s : chunk_reply F w.rooms.hashes r.peer N c clock (handed w.rooms.bytes c m) ≡ chunk_datagram w id c clock = rw (q, re, ie, ne, fe) in
      let h : 0 ≡ held_answer (chunk_count w.channels.state) c w.rooms.map = rw ne at he in
      ap₂ replying (e.0 ∙ ap length s) (e.1 ∙ ap (placed w.channels.reply 0) s) ∙ unless-done (write_number w id c) w _ (rw (z, ← be, ← h))
    where
      replying : ℕ → List ℕ → Out World
      replying x s = out_of 0 x (record { rooms = w.rooms; channels = channels_of w.channels.state w.channels.has w.channels.wants s })
