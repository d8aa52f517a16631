-- The two round trips (demand 2), over every list of messages and every datagram. Assumes nothing.
use Prim.Native.Nat.{ℕ, ◌+◌, ◌<◌, ◌≤◌, ◌^◌}
use native.Mathlib.Omega.{arith}
use native.Mathlib.Nat.{zero-add}
use mathlib.Core.Path.{◌≡◌, refl, sym, ap, subst, ◌∙◌}
use mathlib.Core.List.{List, [], ◌++◌}
use mathlib.Core.Bool.{Bool, true, false}
use lib.ListN.{length, take, drop, length-append}
use lib.Seq.{take_at, length-take-le}
use lib.Dec.{ltb}
use borrow.Author.Tests.{le-ltb, ltb-false}
use Rattle.base.specs.Out.{out_of}
use Rattle.wire.specs.Bytes.{be32, placed}
use Rattle.wire.specs.Limits.{min_size, max_size}
use Rattle.wire.specs.Layout.{Checked, checked_of, number_of, layout_of}
use Rattle.wire.specs.declared.message.Options.TheVariants.{Fixed, EndOnly, Other}
use Rattle.wire.specs.Layout.{Layout}
use Rattle.wire.specs.Layout.{Fault, HandshakeAlone, Messages, MessagesAndData}
use Rattle.wire.proofs.PlacedLaws.{placed-then, placed-front, placed-length}
use Rattle.wire.proofs.ExtendLaws.{layout_is, over}
use Rattle.wire.proofs.FaultLaws.{passed}
use Rattle.writer.specs.Bytes.{bytes32}
use Rattle.writer.specs.Add.{begin_spec}
use Rattle.writer.specs.Lists.{Item, encode, AllHaveWidths, AreBytes, read_all, Reads, Rewritable, add_all, write_all, datagram_of}
use Rattle.writer.proofs.PlaceLaws.{size32}
use Rattle.writer.proofs.NumberLaws.{joined32, split-word}
use Rattle.writer.proofs.ReadBackLaws.{added, list_back}
use Rattle.writer.proofs.WriteBackLaws.{Here, write-back}
use Rattle.format.specs.declared.Format.{Format}

-- ---- a datagram begun
module _ (room : List ℕ) (to : ℕ) where
  begun : max_size ≤ length room → begin_spec room to ≡ out_of 0 min_size (placed room 0 (bytes32 to))
  unfolding begin_spec
  begun big = rw (le-ltb (length room) max_size big)

  big-room : (F : Format) (is : List Item) → (write_all F room to is).answer ≡ 0 → max_size ≤ length room
  unfolding begin_spec
  big-room F is = by (ltb (length room) max_size) refl
    where
      by : (x : Bool) → ltb (length room) max_size ≡ x → (write_all F room to is).answer ≡ 0 → max_size ≤ length room
      by true e z = absurd (omega (arith, rw e at z))
      by false e z = ltb-false (length room) max_size e

  front : max_size ≤ length room → take min_size (placed room 0 (bytes32 to)) ≡ bytes32 to
  front big = rw (size32 to) at (rw zero-add at (placed-front room 0 (bytes32 to) (omega (arith, size32 to))))

-- its destination alone passes the checks
pub alone : (F : Format) (d : List ℕ) → length d ≡ min_size → layout_of F d ≡ checked_of (Messages 0) []
alone F d e = layout_is F d (omega arith) (omega arith) ∙ over F (length d) d [] min_size (omega arith)

pub destination : (to : ℕ) (r : List ℕ) → to < 2 ^ 32 → be32 (bytes32 to ++ r) 0 ≡ to
unfolding bytes32
destination to r h = joined32 to h

-- Every list of messages that begin and add accepted, whose numbers have their widths, reads back as exactly those messages.
pub written_reads : (F : Format) (room : List ℕ) (to : ℕ) (is : List Item) → to < 2 ^ 32 → AllHaveWidths is → (write_all F room to is).answer ≡ 0 → Reads F (datagram_of (write_all F room to is)) to is
written_reads F room to is h f z =
    let big = big-room room to F is z in
    let start = placed room 0 (bytes32 to) in
    let e : write_all F room to is ≡ add_all F start min_size is = rw (begun room to big) in
    let a = added F is start min_size f (rw e at z) in
    let n : length start ≡ length room = placed-length room 0 (bytes32 to) refl in
    let first = front room to big in
    let some : length (take min_size start) ≡ min_size = ap length first ∙ size32 to in
    let good = a.2 (ap (λ (c : Checked). number_of c.layout) (alone F (take min_size start) some)) in
    let fits = passed F (take min_size start ++ encode F is) good in
    let d : datagram_of (write_all F room to is) ≡ bytes32 to ++ encode F is =
    ap datagram_of (e ∙ a.0) ∙ placed-front start min_size (encode F is) (omega (arith, fits.1, some, length-append (take min_size start) (encode F is), n)) ∙ ap (λ (r : List ℕ). r ++ encode F is) first in
    let size : length (bytes32 to ++ encode F is) ≡ 4 + length (encode F is) = length-append (bytes32 to) (encode F is) ∙ ap (λ (k : ℕ). k + length (encode F is)) (size32 to) in
    record {
      to_channel = rw d (destination to (encode F is) h);
      messages = rw d (rw (size32 to) at (list_back F is f a.1 (bytes32 to) (length (bytes32 to ++ encode F is)) (omega (arith, size32 to))));
      passes = rw d (rw first at good);
    }

-- Layouts of datagrams that can be written again, case by case.
abbrev pub Plain : Layout → Type 0
Plain (Fault n) = ⊥
Plain (HandshakeAlone a (Fixed r)) = Unit {0}
Plain (HandshakeAlone a EndOnly) = Unit {0}
Plain (HandshakeAlone a Other) = ⊥
Plain (Messages k) = Unit {0}
Plain (MessagesAndData c x b n k) = Unit {0}

pub rewritable : (l : Layout) → Plain l → Rewritable l
rewritable l p source e = subst Plain e p

-- Every datagram that passes the checks, with the fixed options or End alone where it is a HANDSHAKE, is byte for byte
-- what begin and add give for the messages read from it.
pub read_writes : (F : Format) (room s : List ℕ) → AreBytes s → max_size ≤ length room → number_of (layout_of F s).layout ≡ 0 → Rewritable (layout_of F s).layout
    → write_all F room (be32 s 0) (read_all F s) ≡ out_of 0 (length s) (placed room 0 s)
read_writes F room s small big z r =
    let to = be32 s 0 in
    let p = passed F s z in
    let start = placed room 0 (bytes32 to) in
    let n : length start ≡ length room = placed-length room 0 (bytes32 to) refl in
    let cut : bytes32 to ++ drop min_size s ≡ s = split-word s small 0 p.0 in
    let same : take min_size start ≡ take min_size s = front room to big ∙ sym (take_at (bytes32 to) (drop min_size s) min_size (size32 to)) ∙ ap (take min_size) cut in
    let l = layout_is F s p.0 p.1 in
    let here : Here F s [] start min_size = record {
      low = omega arith;
      inside = p.0;
      short = p.1;
      big = omega (arith, n);
      same = same;
      so_far = alone F (take min_size s) (length-take-le min_size s p.0);
    } in
    rw (begun room to big)
    (write-back F (length s) s [] start min_size small here (omega arith) (rw l at z) (rw l at r)
    ∙ ap (out_of 0 (length s)) (placed-then room 0 (bytes32 to) (drop min_size s) min_size (omega (arith, size32 to)) refl refl ∙ ap (placed room 0) cut))
