-- The replies as their parts are put: each can be written, and is the datagram that it should be. Assumes nothing.
use Prim.Native.Nat.{ℕ, ◌+◌, ◌-◌, ◌≤◌}
use native.Mathlib.Omega.{arith}
use mathlib.Core.Path.{◌≡◌, refl}
use mathlib.Core.List.{List, [], ◌∷◌}
use mathlib.Core.Bool.{true}
use borrow.Author.Tests.{le-leb}
use lib.ListN.{length}
use Rattle.format.specs.declared.Format.{Format}
use Rattle.tree.proofs.Promise.{chunk_size, chunks, max_length, sent}
use Rattle.wire.proofs.Promise.{min_size, max_size, timed_size, place_most}
use Rattle.wire.specs.declared.message.Options.TheVariants.{Fixed}
use Rattle.wire.specs.declared.message.Message.TheVariants.{Handshake, Data, Ack}
use Rattle.writer.specs.declared.place.Writer.{Writer}
use Rattle.writer.proofs.Promise.{Wrote, bytes32, writable, writable_options, size_of, option_span, bytes_of, item_of}
use Rattle.replies.specs.Replies.{handshake_items, handshake_reply, ack_items, ack_reply, chunk_items, chunk_reply}
use Rattle.replies.specs.Steps.{handshake_size, node_items, Puts, Sends}
use Rattle.replies.proofs.DatagramLaws.{datagram-last, puts_one, puts_join, puts_datagram}
use Rattle.replies.proofs.SendingLaws.{sent-long}

-- ---- what can be written, and its size

-- A HANDSHAKE with the fixed options can be written from the 32 bytes of its root.
pub handshake-writable : (F : Format) (n a : ℕ) → n ≡ 32 → writable F n (Handshake a (Fixed 0)) ≡ true
unfolding writable writable_options
handshake-writable F n a e = rw e refl

-- Its size.
pub handshake-size : (F : Format) (a r : ℕ) → size_of F (Handshake a (Fixed r)) ≡ handshake_size
unfolding size_of option_span
handshake-size F a r = refl

-- An ACK can be written from any source.
pub ack-writable : (F : Format) (n f l d : ℕ) → writable F n (Ack f l d) ≡ true
unfolding writable
ack-writable F n f l d = refl

-- Its size.
pub ack-size : (F : Format) (f l d : ℕ) → size_of F (Ack f l d) ≡ timed_size F
unfolding size_of
ack-size F f l d = refl

-- A DATA message can be written from its chunk.
pub data_writable : (F : Format) (n c x : ℕ) → writable F n (Data c c x 0 n) ≡ true
unfolding writable
data_writable F n c x = rw (le-leb n n (omega arith), le-leb 0 (n - n) (omega arith))

-- Its size, its chunk's included.
pub data_size : (F : Format) (c x b n : ℕ) → size_of F (Data c c x b n) ≡ timed_size F + n
unfolding size_of
data_size F c x b n = refl

-- A HANDSHAKE fits behind the destination in a room for a datagram.
pub handshake_puts : (n s : ℕ) → max_size ≤ n → s ≡ 32 → (min_size + (5 + option_span (Fixed 0)) ≤ n) × (writable_options s (Fixed 0) ≡ true)
unfolding option_span writable_options
handshake_puts n s h e = (omega arith, rw e refl)

-- ---- the replies: what is put behind the destination

module _ {w v : Writer} (to : ℕ) (z : w.at ≡ 0) (begins : Wrote w v (bytes32 to)) where
  -- our HANDSHAKE, from a root's bytes
  pub handshake-done : (source : ℕ) {s r : List ℕ} → s ≡ r → {u : Writer} → Wrote v u (bytes_of v.format s (Handshake source (Fixed 0)))
      → Sends w.room.now (handshake_reply w.format to source r) u.room.now u.at
  unfolding handshake_reply
  handshake-done source {s} e p =
      rw (← e) (puts_datagram to (handshake_items source s) z begins (puts_one v (item_of s (Handshake source (Fixed 0))) p))

  -- our ACK
  pub ack-done : (f l d : ℕ) {u : Writer} → Wrote v u (bytes_of v.format [] (Ack f l d)) → Sends w.room.now (ack_reply w.format to f l d) u.room.now u.at
  unfolding ack_reply
  ack-done f l d p = puts_datagram to (ack_items f l d) z begins (puts_one v (item_of [] (Ack f l d)) p)

  -- the hashes that go out with a chunk, and DATA behind them
  pub chunk-done : (hashes : List ℕ) (N c time : ℕ) (bytes : List ℕ) {u x : Writer} → Puts v (node_items hashes (sent N c)) u
      → Wrote u x (bytes_of u.format bytes (Data c c time 0 (length bytes))) → Sends w.room.now (chunk_reply w.format hashes to N c time bytes) x.room.now x.at
  unfolding chunk_reply
  chunk-done hashes N c time bytes {u} s p =
      let i = item_of bytes (Data c c time 0 (length bytes)) in
      puts_datagram to (chunk_items hashes N c time bytes) z begins (puts_join (node_items hashes (sent N c)) (i ∷ []) s (puts_one u i p))

-- ---- their lengths

-- A HANDSHAKE's datagram has 60 bytes.
pub handshake-length : (F : Format) (to source : ℕ) (root : List ℕ) → length root ≡ 32 → length (handshake_reply F to source root) ≡ 60
unfolding handshake_reply
handshake-length F to source root h =
    omega (arith, datagram-last F to [] (item_of root (Handshake source (Fixed 0))) (handshake-writable F (length root) source h), handshake-size F source 0)

-- An ACK's datagram has its destination and the ACK.
pub ack-length : (F : Format) (to f l d : ℕ) → length (ack_reply F to f l d) ≡ min_size + timed_size F
unfolding ack_reply
ack-length F to f l d = omega (arith, datagram-last F to [] (item_of [] (Ack f l d)) (ack-writable F 0 f l d), ack-size F f l d)

-- A chunk's datagram keeps the limit.
pub chunk-length : (F : Format) (hashes : List ℕ) (to N c time : ℕ) (bytes : List ℕ) → N ≤ chunks chunk_size max_length → length bytes ≤ chunk_size
    → length (chunk_reply F hashes to N c time bytes) ≤ max_size
unfolding chunk_reply
chunk-length F hashes to N c time bytes h l =
    let i = item_of bytes (Data c c time 0 (length bytes)) in
    omega (arith, datagram-last F to (node_items hashes (sent N c)) i (data_writable F (length bytes) c time), sent-long F hashes N c h, data_size F c time 0 (length bytes), place_most F)
