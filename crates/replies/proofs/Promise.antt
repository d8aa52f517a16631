-- What the crates above know of this one: of its definitions the names passed on here, how long a reply is, and that it
-- reads back.
-- Assumes nothing.
use mathlib.Core.Path.{◌≡◌}
use mathlib.Core.Logic.{◌≢◌}
use mathlib.Core.List.{List}
use mathlib.Core.Bool.{true}
use Prim.Native.Nat.{ℕ, ◌+◌, ◌≤◌, ◌<◌, ◌^◌}
use lib.ListN.{length}
use Rattle.format.specs.declared.Format.{Format}
use Rattle.tree.proofs.Promise.{chunk_size, chunks, max_length}
use Rattle.wire.proofs.Promise.{min_size, max_size, timed_size, everything_bin}
use Rattle.writer.proofs.Promise.{Reads, nameable}
use Rattle.replies.proofs.ReplyLaws.{handshake-length, ack-length, chunk-length}
use Rattle.replies.proofs.ReadLaws as reading
pub use Rattle.replies.specs.Steps.{Sends}
pub use Rattle.replies.specs.Replies.{datagram, handshake_items, handshake_reply, ack_items, ack_reply, hash_item, chunk_items, chunk_reply}

-- Our HANDSHAKE has 60 bytes by either method.
pub handshake-long : (F : Format) (to source : ℕ) (root : List ℕ) → length root ≡ 32 → length (handshake_reply F to source root) ≡ 60
handshake-long = handshake-length

-- An ACK has 21 bytes where chunks are named by ranges, 17 where by bins.
pub ack-long : (F : Format) (to f l d : ℕ) → length (ack_reply F to f l d) ≡ min_size + timed_size F
ack-long = ack-length

-- The datagram of a chunk of a pack keeps the limit.
pub chunk-fits : (F : Format) (hashes : List ℕ) (to N c time : ℕ) (bytes : List ℕ) → N ≤ chunks chunk_size max_length → length bytes ≤ chunk_size
    → length (chunk_reply F hashes to N c time bytes) ≤ max_size
chunk-fits = chunk-length

-- ---- each passes the checks, and reads back as its messages (00, demand 2: "What is written reads back as the same messages")

pub handshake_reads : (F : Format) (to source : ℕ) (root : List ℕ) → to < 2 ^ 32 → source < 2 ^ 32 → source ≢ 0 → length root ≡ 32
    → Reads F (handshake_reply F to source root) to (handshake_items source root)
handshake_reads = reading.handshake_reads

pub ack_reads : (F : Format) (to f l delay : ℕ) → to < 2 ^ 32 → f ≤ l → l < 2 ^ 32 → delay < 2 ^ 64 → nameable F f l ≡ true → f + l < everything_bin
    → Reads F (ack_reply F to f l delay) to (ack_items f l delay)
ack_reads = reading.ack_reads

pub chunk_reads : (F : Format) (hashes : List ℕ) (to N c time : ℕ) (bytes : List ℕ) → to < 2 ^ 32 → c < N → time < 2 ^ 64 → N ≤ chunks chunk_size max_length → length bytes ≤ chunk_size
    → Reads F (chunk_reply F hashes to N c time bytes) to (chunk_items hashes N c time bytes)
chunk_reads = reading.chunk_reads
