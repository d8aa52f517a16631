-- Worked datagrams, one of each message of 01's table (RFC 7574, 8.4 to 8.12), and the opening HANDSHAKE: antt computes both
-- ways. Assumes nothing.
use Prim.Native.Nat.{ℕ, ◌+◌}
use native.Mathlib.Omega.{arith}
use mathlib.Core.Path.{◌≡◌, refl}
use mathlib.Core.List.{List, [], ◌∷◌, ◌++◌}
use lib.ListN.{length, replicate}
use Rattle.tree.proofs.Promise.{first, last, first_chunk, first_plus_last}
use Rattle.wire.specs.Bytes.{begins}
use Rattle.wire.specs.Options.{head_size, body_size, option_size, options_from, options_size, is_fixed}
use Rattle.wire.specs.Read.{cursor, kind_of, handshake_at, data_at, ack_at, integrity_at, ranged_at, typed, step_of, names_node}
use Rattle.wire.specs.Layout.{checked_of, handshake_fault, handshake_layout, layout_from, layout_of}
use Rattle.wire.specs.declared.message.Options.TheVariants.{Fixed, EndOnly}
use Rattle.wire.specs.declared.message.Message.{Message}
use Rattle.wire.specs.declared.message.Message.TheVariants.{Handshake, Data, Ack, Have, Integrity, Request, Cancel, Choke, Unchoke, Empty}
use Rattle.wire.specs.declared.message.Step.TheVariants.{Read, Refused}
use Rattle.wire.specs.Layout.{HandshakeAlone}
use Rattle.writer.specs.Bytes.{bytes32, bytes64, name_bytes, empty_bytes, nameable}
use Rattle.writer.specs.Message.{option_bytes, bytes_of, writable}
use Rattle.writer.specs.Steps.{option_span, size_of}
use Rattle.writer.specs.Add.{add_answer}
use Rattle.writer.proofs.BackLaws.{moved}
use Rattle.format.specs.declared.Addressing.TheVariants.{Bins, Ranges}
use Rattle.format.specs.Format.{format_by}
use Rattle.format.specs.declared.Format.{Format}
use Rattle.wire.specs.Place.{first_of, is_empty, is_special, last_of, place_size}

-- A message is written as these bytes, and they are read as it, behind a destination.
abbrev Worked : Format → List ℕ → Message → List ℕ → Type 0
Worked F source m bytes = (bytes_of F source m ≡ bytes) × (step_of F 4 bytes ≡ Read (moved F 4 m) (cursor (4 + size_of F m)))

abbrev by_ranges : Format
by_ranges = format_by Ranges

abbrev by_bins : Format
by_bins = format_by Bins

-- HAVE 5..9, REQUEST 0..0, CANCEL 256..65535, CHOKE, UNCHOKE.
pub ranges :
    Worked by_ranges [] (Have 5 9) (3 ∷ 0 ∷ 0 ∷ 0 ∷ 5 ∷ 0 ∷ 0 ∷ 0 ∷ 9 ∷ [])
    × Worked by_ranges [] (Request 0 0) (8 ∷ 0 ∷ 0 ∷ 0 ∷ 0 ∷ 0 ∷ 0 ∷ 0 ∷ 0 ∷ [])
    × Worked by_ranges [] (Cancel 256 65535) (9 ∷ 0 ∷ 0 ∷ 1 ∷ 0 ∷ 0 ∷ 0 ∷ 255 ∷ 255 ∷ [])
    × Worked by_ranges [] Choke (10 ∷ [])
    × Worked by_ranges [] Unchoke (11 ∷ [])
unfolding bytes_of name_bytes nameable bytes32 size_of step_of typed ranged_at place_size is_empty first_of last_of
ranges = ((refl, refl), (refl, refl), (refl, refl), (refl, refl), (refl, refl))

-- ACK of 1..2 with the delay 2 ^ 32 + 7.
pub ack : Worked by_ranges [] (Ack 1 2 4294967303) (2 ∷ 0 ∷ 0 ∷ 0 ∷ 1 ∷ 0 ∷ 0 ∷ 0 ∷ 2 ∷ 0 ∷ 0 ∷ 0 ∷ 1 ∷ 0 ∷ 0 ∷ 0 ∷ 7 ∷ [])
unfolding bytes_of name_bytes nameable bytes32 bytes64 size_of step_of typed ack_at place_size is_special first_of last_of
ack = (refl, refl)

-- DATA of chunk 6 at the time 258, three bytes of the source from index 1 on.
pub chunk : Worked by_ranges (9 ∷ 1 ∷ 2 ∷ 3 ∷ 9 ∷ []) (Data 6 6 258 1 3) (1 ∷ 0 ∷ 0 ∷ 0 ∷ 6 ∷ 0 ∷ 0 ∷ 0 ∷ 6 ∷ 0 ∷ 0 ∷ 0 ∷ 0 ∷ 0 ∷ 0 ∷ 1 ∷ 2 ∷ 1 ∷ 2 ∷ 3 ∷ [])
unfolding bytes_of name_bytes nameable bytes32 bytes64 size_of step_of typed data_at place_size is_special first_of last_of
chunk = (refl, refl)

-- DATA of 5..6 is no message of the table, and adding it to a datagram that was begun gives 2.
pub two_chunks : (step_of by_ranges 4 (bytes_of by_ranges [] (Data 5 6 0 0 0)) ≡ Refused) × (add_answer by_ranges (replicate 2048 0) 4 (Data 5 6 0 0 0) [] ≡ 2)
unfolding bytes_of name_bytes nameable bytes32 bytes64 step_of typed data_at place_size is_special first_of last_of add_answer writable layout_of layout_from
two_chunks = (refl, refl)

-- INTEGRITY of the node over 4..7, whose hash is 32 bytes of 170.
pub integrity : Worked by_ranges (replicate 32 170) (Integrity 4 7 0) (4 ∷ 0 ∷ 0 ∷ 0 ∷ 4 ∷ 0 ∷ 0 ∷ 0 ∷ 7 ∷ replicate 32 170)
unfolding bytes_of name_bytes nameable bytes32 size_of step_of typed integrity_at names_node place_size is_special first_of last_of
integrity =
    let f : first 11 ≡ 4 = first_chunk 2 1 in
    let l : last 11 ≡ 7 = omega (arith, f, first_plus_last 11) in
    (refl, rw (f, l))

-- A closing HANDSHAKE.
pub closing : Worked by_ranges [] (Handshake 0 EndOnly) (0 ∷ 0 ∷ 0 ∷ 0 ∷ 0 ∷ 255 ∷ [])
unfolding bytes_of option_bytes option_span bytes32 size_of step_of typed handshake_at kind_of options_size options_from option_size head_size body_size is_fixed begins
closing = (refl, refl)

-- The opening HANDSHAKE of 01's example: to channel 0, from channel 17, around a root of 32 zero bytes.
abbrev pub opening : List ℕ
opening =
    0 ∷ 0 ∷ 0 ∷ 0 ∷ 0 ∷ 0 ∷ 0 ∷ 0 ∷ 17 ∷ 0 ∷ 1 ∷ 1 ∷ 1 ∷ 2 ∷ 0 ∷ 32
    ∷ (replicate 32 0 ++ (3 ∷ 1 ∷ 4 ∷ 2 ∷ 6 ∷ 2 ∷ 9 ∷ 0 ∷ 0 ∷ 4 ∷ 0 ∷ 255 ∷ []))

pub opening_is :
    (length opening ≡ 60)
    × (bytes32 0 ++ bytes_of by_ranges (replicate 32 0) (Handshake 17 (Fixed 0)) ≡ opening)
    × (layout_of by_ranges opening ≡ checked_of (HandshakeAlone 17 (Fixed 16)) [])
unfolding bytes_of option_bytes bytes32 layout_of layout_from handshake_layout handshake_fault step_of typed handshake_at kind_of options_size options_from option_size head_size body_size is_fixed begins
opening_is = (refl, refl, refl)

-- ---- under bins (02, No. 1)

-- HAVE over no chunk, and REQUEST of chunk 6, which is bin 12.
pub bins :
    Worked by_bins [] (Empty 3) (3 ∷ 255 ∷ 255 ∷ 255 ∷ 255 ∷ [])
    × Worked by_bins [] (Request 6 6) (8 ∷ 0 ∷ 0 ∷ 0 ∷ 12 ∷ [])
unfolding bytes_of name_bytes empty_bytes nameable bytes32 size_of step_of typed ranged_at place_size is_empty first_of last_of
bins =
    let f : first 12 ≡ 6 = first_chunk 0 6 in
    let l : last 12 ≡ 6 = omega (arith, f, first_plus_last 12) in
    ((refl, refl), (rw (f, l), rw (f, l)))

-- INTEGRITY of the node over 4..7, which is bin 11.
pub bin-integrity : Worked by_bins (replicate 32 170) (Integrity 4 7 0) (4 ∷ 0 ∷ 0 ∷ 0 ∷ 11 ∷ replicate 32 170)
unfolding bytes_of name_bytes nameable bytes32 size_of step_of typed integrity_at names_node place_size is_special first_of last_of
bin-integrity =
    let f : first 11 ≡ 4 = first_chunk 2 1 in
    let l : last 11 ≡ 7 = omega (arith, f, first_plus_last 11) in
    (rw (f, l), rw (f, l) (rw (f, l)))
