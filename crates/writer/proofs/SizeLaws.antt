-- What a message that can be written has in its source, and its size. Assumes nothing.
use Prim.Native.Nat.{ℕ, ◌+◌, ◌-◌, ◌≤◌}
use native.Mathlib.Omega.{arith}
use mathlib.Core.Path.{◌≡◌, refl, sym}
use mathlib.Core.List.{List, ◌++◌}
use mathlib.Core.Bool.{true, Bool, false, true≢false}
use borrow.Author.Tests.{leb-true}
use lib.Dec.{leb}
use lib.ListN.{length, length-append}
use Rattle.base.proofs.PickLaws.{both_true}
use Rattle.wire.specs.Options.{fixed_head, fixed_tail}
use Rattle.wire.specs.declared.message.Options.{Options}
use Rattle.wire.specs.declared.message.Options.TheVariants.{Fixed, EndOnly, Other}
use Rattle.wire.specs.declared.message.Message.{Message}
use Rattle.wire.specs.declared.message.Message.TheVariants.{Handshake, Data, Ack, Have, Integrity, Request, Cancel, Choke, Unchoke, Empty}
use Rattle.writer.specs.Bytes.{bytes32, bytes64, name_bytes, emptyable}
use Rattle.writer.specs.Message.{within, option_bytes, bytes_of, in_bounds, writable, writable_options}
use Rattle.writer.specs.Steps.{size_of, option_span}
use Rattle.writer.proofs.PlaceLaws.{size32, size64, size_name, size_empty}
use Rattle.writer.proofs.SourceLaws.{within-length}
use Rattle.format.specs.declared.Format.{Format}
use Rattle.wire.specs.Read.{is_ranged}
use Rattle.base.specs.Pick.{pick}

-- ---- what lies in the source

-- the test, as an order of numbers
pub lies_in : (size at n : ℕ) → in_bounds size at n ≡ true → at + n ≤ size
lies_in size at n h =
    let g = both_true (leb n size) (leb at (size - n)) h in
    omega (arith, leb-true n size g.0, leb-true at (size - n) g.1)

-- a chunk lies in the source
pub data_in : (F : Format) (size : ℕ) {m : Message} {f l t b n : ℕ} → writable F size m ≡ true → m ≡ Data f l t b n → b + n ≤ size
unfolding writable
data_in F size {b = b} {n = n} w e = lies_in size b n (rw e at w)

-- ---- sizes

-- options that can be written
options_length : (F : Format) (s : List ℕ) (o : Options) → writable_options (length s) o ≡ true → length (option_bytes F s o) ≡ option_span o
unfolding writable_options option_bytes option_span
options_length F s (Fixed r) w =
    let e = within-length s r 32 (lies_in (length s) r 32 w) in
    omega (arith, e, length-append fixed_head (within s r 32 ++ fixed_tail F), length-append (within s r 32) (fixed_tail F))
options_length F s EndOnly w = refl
options_length F s Other w = refl

-- a message that can be written
pub bytes-length : (F : Format) (s : List ℕ) (m : Message) → writable F (length s) m ≡ true → length (bytes_of F s m) ≡ size_of F m
unfolding writable bytes_of size_of
bytes-length F s (Handshake a o) w = omega (arith, options_length F s o w, size32 a, length-append (bytes32 a) (option_bytes F s o))
bytes-length F s (Data f l t b n) w =
    let e = within-length s b n (lies_in (length s) b n w) in
    omega (arith, e, size64 t, size_name F 1 f l, length-append (name_bytes F 1 f l) (bytes64 t ++ within s b n), length-append (bytes64 t) (within s b n))
bytes-length F s (Ack f h d) w = omega (arith, size64 d, size_name F 2 f h, length-append (name_bytes F 2 f h) (bytes64 d))
bytes-length F s (Have f h) w = size_name F 3 f h
bytes-length F s (Integrity f h b) w = omega (arith, within-length s b 32 (lies_in (length s) b 32 w), size_name F 4 f h, length-append (name_bytes F 4 f h) (within s b 32))
bytes-length F s (Request f h) w = size_name F 8 f h
bytes-length F s (Cancel f h) w = size_name F 9 f h
bytes-length F s Choke w = refl
bytes-length F s Unchoke w = refl
bytes-length F s (Empty k) w = size_empty F k (says (is_ranged k) w)
  where
    says : (b : Bool) → pick b (emptyable F.addressing) false ≡ true → emptyable F.addressing ≡ true
    says true e = e
    says false e = absurd (true≢false (sym e))
