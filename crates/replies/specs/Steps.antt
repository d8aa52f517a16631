-- Nothing of the papers: what the code computes on its way. Assumes nothing.
use Rattle.std.specs.Prelude.{ℕ, ◌+◌, ◌≡◌, List, map, length}
use Rattle.std.specs.Borrow.{MutBor}
use Rattle.format.specs.declared.Format.{Format}
use Rattle.tree.proofs.Promise.{Node, num}
use Rattle.wire.proofs.Promise.{placed, fixed_size}
use Rattle.writer.specs.declared.place.Writer.{Writer}
use Rattle.writer.proofs.Promise.{Wrote, Item, encode}
use Rattle.replies.specs.Replies.{hash_item}

-- A writer at the front of a room.
abbrev pub at_front : MutBor (List ℕ) → Format → Writer
at_front room F = record { room = room; at = 0; format = F }

-- The size of a HANDSHAKE: its type and source, and the fixed options.
abbrev pub handshake_size : ℕ
handshake_size = 5 + fixed_size

-- The INTEGRITY of each node of a list.
abbrev pub node_items : List ℕ → List Node → List Item
node_items hashes ns = map (hash_item hashes) (map num ns)

-- From w to v the messages were written.
abbrev pub Puts : Writer → List Item → Writer → Type 0
Puts w is v = Wrote w v (encode w.format is)

-- The room, which was `old` before, begins with the datagram d, which has this length.
abbrev pub Sends : List ℕ → List ℕ → List ℕ → ℕ → Type 0
Sends old d room len = (len ≡ length d) × (room ≡ placed old 0 d)
