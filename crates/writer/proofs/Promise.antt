-- What the crates above know of this one: of its definitions the names passed on here, the round trips, that a refused call
-- changes nothing, and which numbers a call can give. Assumes nothing.
use mathlib.Core.Path.{◌≡◌, refl, sym, ap, ◌∙◌}
use mathlib.Core.List.{List, [], ◌∷◌, ◌++◌}
use mathlib.Core.Bool.{true}
use Prim.Native.Nat.{ℕ, ◌+◌, ◌<◌, ◌≤◌, ◌^◌}
use native.Mathlib.Omega.{arith}
use lib.ListN.{length, take}
use lib.Seq.{take-length}
use lib.Dec.{ltb}
use Rattle.base.specs.Pick.{pick}
use Rattle.std.specs.Prelude.{None}
use Rattle.base.specs.Out.{out_of, Unaltered}
use Rattle.base.specs.Among.{OneOf}
use Rattle.base.proofs.OutLaws.{done-unaltered, unless-unaltered, unless-nameless}
use Rattle.wire.proofs.Promise.{be32, placed, min_size, max_size, number_of, layout_of}
use Rattle.wire.specs.declared.message.Message.{Message}
use Rattle.wire.specs.declared.message.Message.TheVariants.{Integrity}
use Rattle.writer.proofs.SizeLaws.{bytes-length}
use Rattle.writer.proofs.ReadBackLaws.{read-over}
use Rattle.writer.proofs.RoundTrips.{written_reads, read_writes}
use Rattle.writer.proofs.AnswerNumberLaws as numbers
use Rattle.writer.proofs.ComposeLaws as compose
pub use Rattle.writer.specs.Bytes.{bytes64, nameable, is_everything, name_bytes}
unfoldable pub use Rattle.writer.specs.Bytes.{bytes32}
pub use Rattle.writer.specs.Message.{within, bytes_of}
unfoldable pub use Rattle.writer.specs.Message.{writable, writable_options}
pub use Rattle.writer.specs.Add.{add_answer, add_spec}
unfoldable pub use Rattle.writer.specs.Add.{begin_spec}
pub use Rattle.writer.specs.Lists.{Item, item_of, encode, HasWidths, AllHaveWidths, AreBytes, content_of, contents_of, on_step, read_all, Reads, Rewritable, write_all, datagram_of}
unfoldable pub use Rattle.writer.specs.Lists.{read_from}
unfoldable pub use Rattle.writer.specs.Steps.{size_of, option_span}
pub use Rattle.writer.specs.Steps.{allowed, fault_behind}
pub use Rattle.writer.specs.Writer.{Free, Wrote}
pub use Rattle.writer.proofs.PlaceLaws.{size32, size_name}
pub use Rattle.writer.proofs.WriterLaws.{wrote_none, wrote_then, wrote_as, then_same}
pub use Rattle.writer.proofs.NumberLaws.{be32-fits}
pub use Rattle.writer.proofs.NameLaws.{ranges_name, bins_name, node-covers, node-nameable, chunk-nameable, not_everything}
pub use Rattle.writer.proofs.RoundTrips.{Plain, rewritable}
pub use Rattle.writer.proofs.ComposeLaws.{Joining, noted_all}
use Rattle.format.specs.declared.Format.{Format}

-- A message that can be written has the size that the table says.
pub message-size : (F : Format) (s : List ℕ) (m : Message) → writable F (length s) m ≡ true → length (bytes_of F s m) ≡ size_of F m
message-size = bytes-length

-- An INTEGRITY message is its type and chunks, and then its hash.
pub integrity-bytes : (F : Format) (s : List ℕ) (f l : ℕ) → length s ≡ 32 → bytes_of F s (Integrity f l 0) ≡ name_bytes F 4 f l ++ s
unfolding bytes_of
integrity-bytes F s f l e = ap (λ (r : List ℕ). name_bytes F 4 f l ++ r) (ap (λ (n : ℕ). take n s) (sym e) ∙ take-length s)

-- A keepalive has no message.
pub read_none : (F : Format) (s : List ℕ) → length s ≡ min_size → read_all F s ≡ []
read_none F s h = read-over F (length s) s min_size (omega arith)

-- ---- a refused call gives length 0 and leaves the room

pub begin-refused-same : (room : List ℕ) (to : ℕ) → Unaltered room (begin_spec room to)
unfolding begin_spec
begin-refused-same room to = unless-unaltered (pick (ltb (length room) max_size) 11 0) room _ (done-unaltered room _ min_size)

pub add-refused-same : (F : Format) (room : List ℕ) (len : ℕ) (m : Message) (source : List ℕ) → Unaltered room (add_spec F room len m source)
unfolding add_spec
add-refused-same F room len m source =
    unless-unaltered (add_answer F room len m source) room _ (done-unaltered room _ (len + length (bytes_of F source m)))

-- ---- no call names a node

pub begin_nameless : (room : List ℕ) (to : ℕ) → (begin_spec room to).node ≡ None
unfolding begin_spec
begin_nameless room to = unless-nameless _ _ _ refl

pub add_nameless : (F : Format) (room : List ℕ) (len : ℕ) (m : Message) (source : List ℕ) → (add_spec F room len m source).node ≡ None
unfolding add_spec
add_nameless F room len m source = unless-nameless _ _ _ refl

-- ---- the numbers that a call can give

pub begin_numbered : (room : List ℕ) (to : ℕ) → OneOf (0 ∷ 11 ∷ []) (begin_spec room to).answer
begin_numbered = numbers.begin-one

pub add_numbered : (F : Format) (room : List ℕ) (len : ℕ) (m : Message) (source : List ℕ) → OneOf (0 ∷ 1 ∷ 2 ∷ 3 ∷ 11 ∷ []) (add_spec F room len m source).answer
add_numbered = numbers.add-one

-- ---- the round trips

-- Every list of messages that begin and add accepted, whose numbers have their widths, reads back as exactly those messages.
pub round_trip_written : (F : Format) (room : List ℕ) (to : ℕ) (is : List Item) → to < 2 ^ 32 → AllHaveWidths is → (write_all F room to is).answer ≡ 0 → Reads F (datagram_of (write_all F room to is)) to is
round_trip_written = written_reads

-- Every datagram that passes the checks, with the fixed options or End alone where it is a HANDSHAKE, is byte for byte what
-- begin and add give for the messages read from it.
pub round_trip_read : (F : Format) (room s : List ℕ) → AreBytes s → max_size ≤ length room → number_of (layout_of F s).layout ≡ 0 → Rewritable (layout_of F s).layout
    → write_all F room (be32 s 0) (read_all F s) ≡ out_of 0 (length s) (placed room 0 s)
round_trip_read = read_writes

-- A datagram put together without adding reads back too: messages that join it, and one more, which may end it.
pub composed_reads : (F : Format) (to : ℕ) (is : List Item) (i : Item) → to < 2 ^ 32 → AllHaveWidths is → HasWidths i.message → Joining F to min_size [] is
    → writable F (length i.source) i.message ≡ true → fault_behind F (noted_all F min_size [] is) to (min_size + length (encode F is)) i.message ≡ 0
    → min_size + length (encode F is) + size_of F i.message ≤ max_size → Reads F (bytes32 to ++ encode F (is ++ (i ∷ []))) to (is ++ (i ∷ []))
composed_reads = compose.composed_reads
