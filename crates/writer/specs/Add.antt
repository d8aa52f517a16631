-- Beginning a datagram and adding a message to it (01, "Adding a message"): the number, the datagram's length and the
-- room afterwards. Assumes nothing.
use Rattle.std.specs.Prelude.{ℕ, ◌+◌, List, ◌++◌, Bool, true, false, not, length, take, ltb}
use Rattle.base.specs.Pick.{pick, earlier}
use Rattle.base.specs.Out.{Out, out_of, unless}
use Rattle.format.specs.declared.Format.{Format}
use Rattle.wire.specs.Bytes.{placed}
use Rattle.wire.specs.Limits.{min_size, max_size}
use Rattle.wire.specs.Layout.{number_of, layout_of}
use Rattle.wire.specs.declared.message.Message.{Message}
use Rattle.wire.specs.Layout.{Layout}
use Rattle.wire.specs.Layout.{Fault, HandshakeAlone, Messages, MessagesAndData}
use Rattle.writer.specs.Bytes.{bytes32}
use Rattle.writer.specs.Message.{bytes_of, writable}

-- Whether a datagram has DATA: what is added behind it would be read as chunk bytes.
abbrev pub has_data : Layout → Bool
has_data (Fault n) = false
has_data (HandshakeAlone a o) = false
has_data (Messages k) = false
has_data (MessagesAndData c x b n k) = true

-- The number for adding a message to the first len bytes of a room: 11 for a room under the limit; 1 for a length over it;
-- the reader's number for the datagram so far; 2 for a message that cannot be written; the reader's number for the lengthened
-- datagram; 2 behind DATA.
unfoldable pub add_answer : Format → List ℕ → ℕ → Message → List ℕ → ℕ
add_answer F room len m bytes =
    pick (ltb (length room) max_size) 11
    (pick (ltb max_size len) 1
    (earlier (number_of (layout_of F (take len room)).layout)
    (pick (not (writable F (length bytes) m)) 2
    (earlier (number_of (layout_of F (take len room ++ bytes_of F bytes m)).layout)
    (pick (has_data (layout_of F (take len room)).layout) 2
    0)))))

-- A datagram begins with its destination.
unfoldable pub begin_spec : List ℕ → ℕ → Out (List ℕ)
begin_spec room to = unless (pick (ltb (length room) max_size) 11 0) room (out_of 0 min_size (placed room 0 (bytes32 to)))

-- The message is written behind the datagram so far; what stands past it stays.
unfoldable pub add_spec : Format → List ℕ → ℕ → Message → List ℕ → Out (List ℕ)
add_spec F room len m bytes =
    unless (add_answer F room len m bytes) room
    (out_of 0 (len + length (bytes_of F bytes m)) (placed room len (bytes_of F bytes m)))
