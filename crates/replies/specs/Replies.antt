-- The datagrams that a store sends (01, "Datagrams", the replies; "Writing a chunk"). Assumes nothing.
use Rattle.std.specs.Prelude.{ℕ, List, [], ◌∷◌, ◌++◌, map, length}
use Rattle.format.specs.declared.Format.{Format}
use Rattle.tree.proofs.Promise.{first, last, num, sent}
use Rattle.store.proofs.Promise.{hash_in}
use Rattle.wire.specs.declared.message.Options.TheVariants.{Fixed}
use Rattle.wire.specs.declared.message.Message.TheVariants.{Handshake, Data, Ack, Integrity}
use Rattle.writer.proofs.Promise.{bytes32, Item, item_of, encode}

-- A datagram: its destination channel, then its messages.
abbrev pub datagram : Format → ℕ → List Item → List ℕ
datagram F to is = bytes32 to ++ encode F is

-- Our HANDSHAKE: our channel as its source, and the fixed options around the root; and the datagram of it to a channel.
abbrev pub handshake_items : ℕ → List ℕ → List Item
handshake_items source root = item_of root (Handshake source (Fixed 0)) ∷ []

unfoldable pub handshake_reply : Format → ℕ → ℕ → List ℕ → List ℕ
handshake_reply F to source root = datagram F to (handshake_items source root)

-- An ACK of the chunks f..l with a delay, and its datagram.
abbrev pub ack_items : ℕ → ℕ → ℕ → List Item
ack_items f l delay = item_of [] (Ack f l delay) ∷ []

unfoldable pub ack_reply : Format → ℕ → ℕ → ℕ → ℕ → List ℕ
ack_reply F to f l delay = datagram F to (ack_items f l delay)

-- The INTEGRITY of node b: the chunks that it covers, and its hash.
unfoldable pub hash_item : List ℕ → ℕ → Item
hash_item hashes b = item_of (hash_in hashes b) (Integrity (first b) (last b) 0)

-- What goes out for chunk c of N: all peaks and all siblings below its peak in their order, then DATA with the given clock;
-- and its datagram.
abbrev pub chunk_items : List ℕ → ℕ → ℕ → ℕ → List ℕ → List Item
chunk_items hashes N c time bytes =
    map (hash_item hashes) (map num (sent N c)) ++ (item_of bytes (Data c c time 0 (length bytes)) ∷ [])

unfoldable pub chunk_reply : Format → List ℕ → ℕ → ℕ → ℕ → ℕ → List ℕ → List ℕ
chunk_reply F hashes to N c time bytes = datagram F to (chunk_items hashes N c time bytes)
