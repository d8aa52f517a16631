-- What a message that was accepted has. Assumes nothing.
use Prim.Native.Nat.{ℕ, zero, suc, ◌+◌, ◌≤◌}
use native.Mathlib.Omega.{arith}
use mathlib.Core.Path.{◌≡◌, refl, sym, ap, ◌∙◌}
use mathlib.Core.List.{List, ◌++◌}
use mathlib.Core.Bool.{Bool, true, false, not, true≢false}
use lib.ListN.{length, take, length-append}
use lib.Dec.{ltb}
use borrow.Author.Tests.{ltb-false, not-false}
use Rattle.base.specs.Pick.{pick, earlier}
use Rattle.wire.specs.Bytes.{be32}
use Rattle.wire.specs.Limits.{min_size, max_size}
use Rattle.wire.specs.Layout.{Checked, number_of, layout_of}
use Rattle.wire.specs.declared.message.Message.{Message}
use Rattle.wire.specs.declared.message.Message.TheVariants.{Handshake, Data, Ack, Have, Integrity, Request, Cancel, Choke, Unchoke, Empty}
use Rattle.wire.specs.Layout.{Layout}
use Rattle.wire.specs.Layout.{Fault, HandshakeAlone, Messages, MessagesAndData}
use Rattle.wire.proofs.ExtendLaws.{Extended}
use Rattle.wire.proofs.FaultLaws.{Passed, passed}
use Rattle.writer.specs.Message.{bytes_of, writable}
use Rattle.writer.specs.Add.{has_data, add_answer}
use Rattle.writer.specs.Lists.{HasWidths}
use Rattle.writer.specs.Steps.{size_of, fault_behind, node_of, own_fault, seen_fault, allowed}
use Rattle.writer.proofs.SizeLaws.{bytes-length}
use Rattle.writer.proofs.AddLaws.{joined, behind-number}
use Rattle.format.specs.declared.Format.{Format}

-- a test that did not refuse, and a number that is 0
pub unrefused : (b : Bool) (k rest : ℕ) → pick b (suc k) rest ≡ 0 → (b ≡ false) × (rest ≡ 0)
unrefused true k rest e = absurd (omega arith)
unrefused false k rest e = (refl, e)

pub both_zero : (n rest : ℕ) → earlier n rest ≡ 0 → (n ≡ 0) × (rest ≡ 0)
both_zero zero rest e = (refl, e)
both_zero (suc n) rest e = absurd (omega arith)

-- What the tests of adding leave over.
pub record Tested (F : Format) (room : List ℕ) (len : ℕ) (m : Message) (source : List ℕ) : Type 0 where
  pub big : max_size ≤ length room
  pub short : len ≤ max_size
  pub so_far : number_of (layout_of F (take len room)).layout ≡ 0
  pub can : writable F (length source) m ≡ true
  pub longer : number_of (layout_of F (take len room ++ bytes_of F source m)).layout ≡ 0
  pub no_data : has_data (layout_of F (take len room)).layout ≡ false

pub tested : (F : Format) (room : List ℕ) (len : ℕ) (m : Message) (source : List ℕ) → add_answer F room len m source ≡ 0 → Tested F room len m source
unfolding add_answer
tested F room len m source e =
    let a = unrefused (ltb (length room) max_size) 10 _ e in
    let b = unrefused (ltb max_size len) 0 _ a.1 in
    let c = both_zero (number_of (layout_of F (take len room)).layout) _ b.1 in
    let d = unrefused (not (writable F (length source) m)) 1 _ c.1 in
    let f = both_zero (number_of (layout_of F (take len room ++ bytes_of F source m)).layout) _ d.1 in
    let g = unrefused (has_data (layout_of F (take len room)).layout) 1 0 f.1 in
    record {
      big = ltb-false (length room) max_size a.0;
      short = ltb-false max_size len b.0;
      so_far = c.0;
      can = not-false (writable F (length source) m) d.0;
      longer = f.0;
      no_data = g.0;
    }

-- ---- what a number 0 says of the message
allowed-good : (x : Bool) → ◌≡◌ {A = ℕ} (pick x 0 2) 0 → x ≡ true
allowed-good true e = refl
allowed-good false e = absurd (omega arith)

pub own_good : (F : Format) (to len : ℕ) (m : Message) → own_fault F to len m ≡ 0 → allowed F m ≡ true
own_good F to len (Handshake a o) e = refl
own_good F to len (Data f l x b n) e = allowed-good _ e
own_good F to len (Ack f l d) e = allowed-good _ e
own_good F to len (Have f l) e = allowed-good _ e
own_good F to len (Integrity f l h) e = allowed-good _ e
own_good F to len (Request f l) e = allowed-good _ e
own_good F to len (Cancel f l) e = allowed-good _ e
own_good F to len Choke e = refl
own_good F to len Unchoke e = refl
own_good F to len (Empty k) e = refl

pub good-message : (F : Format) (es : List ℕ) (to len : ℕ) (m : Message) → fault_behind F es to len m ≡ 0 → allowed F m ≡ true
good-message F es to len m e = own_good F to len m (both_zero (seen_fault es (node_of m)) _ e).1

-- a message has a byte at least
pub size_some : (F : Format) (m : Message) → 1 ≤ size_of F m
unfolding size_of
size_some F (Handshake a o) = omega arith
size_some F (Data f l x b n) = omega arith
size_some F (Ack f l d) = omega arith
size_some F (Have f l) = omega arith
size_some F (Integrity f l h) = omega arith
size_some F (Request f l) = omega arith
size_some F (Cancel f l) = omega arith
size_some F Choke = omega arith
size_some F Unchoke = omega arith
size_some F (Empty k) = omega arith

-- ---- an accepted message: it fits, it is one of the table, and the datagram so far has neither HANDSHAKE nor DATA
pub record Accepted (F : Format) (p : List ℕ) (m : Message) (source : List ℕ) : Type 0 where
  pub low : min_size ≤ length p
  pub fits : length p + size_of F m ≤ max_size
  pub can : writable F (length source) m ≡ true
  pub good : allowed F m ≡ true
  pub entries : ℕ
  pub plain : (layout_of F p).layout ≡ Messages entries

module _ (F : Format) (p source : List ℕ) (m : Message) (f : HasWidths m) (can : writable F (length source) m ≡ true) where
  by_layout_lem : (low : min_size ≤ length p) (fits : length p + size_of F m ≤ max_size) (l : Layout) (gs : List ℕ) (c : Checked) → (layout_of F p).layout ≡ l → Passed l → has_data l ≡ false
      → Extended F p (bytes_of F source m) l gs c → number_of c.layout ≡ 0 → Accepted F p m source
  by_layout_lem low fits (Fault n) gs c e q h x z = absurd q
  by_layout_lem low fits (HandshakeAlone a o) gs c e q h x z =
      absurd (omega (arith, z, ap number_of (x (omega (arith, bytes-length F source m can, size_some F m)))))
  by_layout_lem low fits (Messages k) gs c e q h x z =
      record { low = low; fits = fits; can = can; good = good-message F gs (be32 p 0) (length p) m (sym (behind-number F p source m can low fits f gs c x) ∙ z); entries = k; plain = e }
  by_layout_lem low fits (MessagesAndData a b d n k) gs c e q h x z = absurd (true≢false h)

-- What an accepted message has.
pub accepted : (F : Format) (room : List ℕ) (len : ℕ) (m : Message) (source : List ℕ) → HasWidths m → add_answer F room len m source ≡ 0 → Accepted F (take len room) m source
accepted F room len m source f e =
    let t = tested F room len m source e in
    let p = take len room in
    let a = passed F p t.so_far in
    let b = passed F (p ++ bytes_of F source m) t.longer in
    let n : length p + size_of F m ≤ max_size = omega (arith, b.1, length-append p (bytes_of F source m), bytes-length F source m t.can) in
    by_layout_lem F p source m f t.can a.0 n (layout_of F p).layout (layout_of F p).entries (layout_of F (p ++ bytes_of F source m)) refl a.2 t.no_data
    (joined F p source m t.can a.0 n) t.longer
