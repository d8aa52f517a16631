-- The bytes of a message: the table of 01, "Datagrams" (RFC 7574, 8). Assumes nothing.
use Rattle.std.specs.Prelude.{ℕ, ◌-◌, List, [], ◌∷◌, ◌++◌, Bool, true, false, take, drop, leb}
use Rattle.base.specs.Pick.{pick}
use Rattle.format.specs.declared.Format.{Format}
use Rattle.wire.specs.Options.{fixed_head, fixed_tail}
use Rattle.wire.specs.Read.{is_ranged}
use Rattle.wire.specs.declared.message.Options.{Options}
use Rattle.wire.specs.declared.message.Options.TheVariants.{Fixed, EndOnly, Other}
use Rattle.wire.specs.declared.message.Message.{Message}
use Rattle.wire.specs.declared.message.Message.TheVariants.{Handshake, Data, Ack, Have, Integrity, Request, Cancel, Choke, Unchoke, Empty}
use Rattle.writer.specs.Bytes.{bytes32, bytes64, name_bytes, empty_bytes, emptyable}

-- n bytes of s from index `at`.
abbrev pub within : List ℕ → ℕ → ℕ → List ℕ
within s at n = take n (drop at s)

-- A HANDSHAKE has the fixed options around a root, which is taken from s, or End alone; others are not written.
unfoldable pub option_bytes : Format → List ℕ → Options → List ℕ
option_bytes F s (Fixed root) = fixed_head ++ (within s root 32 ++ fixed_tail F)
option_bytes F s EndOnly = 255 ∷ []
option_bytes F s Other = []

-- A message's bytes, its hash, chunk or root taken from s.
unfoldable pub bytes_of : Format → List ℕ → Message → List ℕ
bytes_of F s (Handshake source options) = 0 ∷ bytes32 source ++ option_bytes F s options
bytes_of F s (Data first last time start len) = name_bytes F 1 first last ++ (bytes64 time ++ within s start len)
bytes_of F s (Ack first last delay) = name_bytes F 2 first last ++ bytes64 delay
bytes_of F s (Have first last) = name_bytes F 3 first last
bytes_of F s (Integrity first last hash) = name_bytes F 4 first last ++ within s hash 32
bytes_of F s (Request first last) = name_bytes F 8 first last
bytes_of F s (Cancel first last) = name_bytes F 9 first last
bytes_of F s Choke = 10 ∷ []
bytes_of F s Unchoke = 11 ∷ []
bytes_of F s (Empty kind) = empty_bytes kind

-- Whether n bytes from `at` on lie in a source of size bytes.
abbrev pub in_bounds : ℕ → ℕ → ℕ → Bool
in_bounds size at n = pick (leb n size) (leb at (size - n)) false

-- Whether a message can be written: its hash, chunk or root lies in the source, and its options are not others. HAVE, REQUEST
-- and CANCEL over no chunk are written under bins alone.
unfoldable pub writable_options : ℕ → Options → Bool
writable_options size (Fixed root) = in_bounds size root 32
writable_options size EndOnly = true
writable_options size Other = false

unfoldable pub writable : Format → ℕ → Message → Bool
writable F size (Handshake source options) = writable_options size options
writable F size (Data first last time start len) = in_bounds size start len
writable F size (Ack first last delay) = true
writable F size (Have first last) = true
writable F size (Integrity first last hash) = in_bounds size hash 32
writable F size (Request first last) = true
writable F size (Cancel first last) = true
writable F size Choke = true
writable F size Unchoke = true
writable F size (Empty kind) = pick (is_ranged kind) (emptyable F.addressing) false
