-- A datagram put together from messages, without adding them one by one: it passes the checks and reads back. Assumes nothing.
use Prim.Native.Nat.{ℕ, suc, ◌+◌, ◌<◌, ◌≤◌, ◌^◌}
use native.Mathlib.Omega.{arith}
use mathlib.Core.Path.{◌≡◌, sym, ap, ◌∙◌}
use mathlib.Core.List.{List, [], ◌∷◌, ◌++◌, append_assoc, append-nil}
use mathlib.Core.Bool.{true}
use lib.ListN.{length, length-append}
use Rattle.wire.specs.Bytes.{be32}
use Rattle.wire.specs.Limits.{min_size, max_size}
use Rattle.wire.specs.Read.{cursor}
use Rattle.wire.specs.Layout.{Checked, checked_of, number_of, layout_step, layout_from, layout_of}
use Rattle.wire.specs.declared.message.Message.{Message}
use Rattle.wire.specs.declared.message.Message.TheVariants.{Handshake, Data, Ack, Have, Integrity, Request, Cancel, Choke, Unchoke, Empty}
use Rattle.wire.specs.declared.message.Step.TheVariants.{Read}
use Rattle.wire.specs.Layout.{Messages}
use Rattle.wire.proofs.LocalLaws.{be32-local}
use Rattle.writer.specs.Bytes.{bytes32}
use Rattle.writer.specs.Message.{bytes_of, writable}
use Rattle.writer.specs.Lists.{Item, encode, HasWidths, AllHaveWidths, Reads}
use Rattle.writer.specs.Steps.{size_of, fault_behind, allowed}
use Rattle.writer.proofs.PlaceLaws.{size32}
use Rattle.writer.proofs.SizeLaws.{bytes-length}
use Rattle.writer.proofs.BackLaws.{moved, Behind}
use Rattle.writer.proofs.AddLaws.{joined, rest_is, behind-step, behind-number, nothing_behind}
use Rattle.writer.proofs.AcceptLaws.{good-message}
use Rattle.writer.proofs.ReadBackLaws.{Chain, list_back}
use Rattle.writer.proofs.WriteBackLaws.{Goes, noted, goes_on}
use Rattle.writer.proofs.RoundTrips.{alone, destination}
use Rattle.format.specs.declared.Format.{Format}

-- The entries behind messages that begin at `at`.
abbrev pub noted_all : (F : Format) → ℕ → List ℕ → List Item → List ℕ
noted_all F at es [] = es
noted_all F at es (i ∷ is) = noted_all F (at + size_of F i.message) (noted es (moved F at i.message)) is

-- Messages from `at` on in a datagram to a channel, behind the entries es: each can be written, gets no number at its place,
-- and does not end the datagram.
abbrev pub Joining : (F : Format) → ℕ → ℕ → List ℕ → List Item → Type 0
Joining F to at es [] = Unit {0}
Joining F to at es (i ∷ is) =
    (writable F (length i.source) i.message ≡ true) × (fault_behind F es to at i.message ≡ 0) × Goes i.message
    × Joining F to (at + size_of F i.message) (noted es (moved F at i.message)) is

goes_moved : (F : Format) (at : ℕ) (m : Message) → Goes m → Goes (moved F at m)
goes_moved F at (Handshake a o) g = g
goes_moved F at (Data f l x b n) g = g
goes_moved F at (Ack f l d) g = g
goes_moved F at (Have f l) g = g
goes_moved F at (Integrity f l h) g = g
goes_moved F at (Request f l) g = g
goes_moved F at (Cancel f l) g = g
goes_moved F at Choke g = g
goes_moved F at Unchoke g = g
goes_moved F at (Empty k) g = g

goes-behind : (m : Message) (r : List ℕ) → Goes m → Behind m r
goes-behind (Handshake a o) r g = absurd g
goes-behind (Data f l x b n) r g = absurd g
goes-behind (Ack f l d) r g = tt
goes-behind (Have f l) r g = tt
goes-behind (Integrity f l h) r g = tt
goes-behind (Request f l) r g = tt
goes-behind (Cancel f l) r g = tt
goes-behind Choke r g = tt
goes-behind Unchoke r g = tt
goes-behind (Empty k) r g = tt

-- ---- one message m behind p, whose entries are es
module _ (F : Format) (p s es : List ℕ) (m : Message) (f : HasWidths m) (can : writable F (length s) m ≡ true) (low : min_size ≤ length p) (fits : length p + size_of F m ≤ max_size)
    (so_far : layout_of F p ≡ checked_of (Messages (length es)) es) (none : fault_behind F es (be32 p 0) (length p) m ≡ 0) where
  on : (k : ℕ) → length (bytes_of F s m) < k → layout_of F (p ++ bytes_of F s m) ≡ layout_from F k (p ++ bytes_of F s m) es (length p)
  on = rw so_far at (joined F p s m can low fits)

  -- the checks let it pass
  pub one_passes : number_of (layout_of F (p ++ bytes_of F s m)).layout ≡ 0
  one_passes = behind-number F p s m can low fits f es (layout_of F (p ++ bytes_of F s m)) on ∙ none

  -- and go on behind it
  pub one-goes : Goes m → layout_of F (p ++ bytes_of F s m) ≡ checked_of (Messages (length (noted es (moved F (length p) m)))) (noted es (moved F (length p) m))
  one-goes g =
      let b = bytes_of F s m in
      let next = length p + size_of F m in
      let step : layout_of F (p ++ b) ≡ layout_step (p ++ b) es (length p) (Read (moved F (length p) m) (cursor next)) (λ gs at. layout_from F (suc (length b)) (p ++ b) gs at) =
      rw (good-message F es (be32 p 0) (length p) m none) at (behind-step F p s m can low fits f es (layout_of F (p ++ b)) on) in
      step
      ∙ goes_on F (p ++ b) es (length p) next (λ gs at. layout_from F (suc (length b)) (p ++ b) gs at) (moved F (length p) m) (goes_moved F (length p) m g)
      (sym (ap (λ (c : Checked). number_of c.layout) step) ∙ one_passes)
      ∙ rest_is F p s m can low fits f es (layout_of F (p ++ b)) on (noted es (moved F (length p) m))

-- ---- several messages behind p
pub joins : (F : Format) (is : List Item) (p es : List ℕ) (to at : ℕ) → be32 p 0 ≡ to → length p ≡ at → AllHaveWidths is → min_size ≤ at → at + length (encode F is) ≤ max_size
    → layout_of F p ≡ checked_of (Messages (length es)) es → Joining F to at es is → layout_of F (p ++ encode F is) ≡ checked_of (Messages (length (noted_all F at es is))) (noted_all F at es is)
joins F [] p es to at d l f low short so_far j = rw (append-nil p) so_far
joins F (i ∷ is) p es to at d l f low short so_far j =
    let s = i.source in let m = i.message in let b = bytes_of F s m in
    let n = bytes-length F s m j.0 in
    let k = length-append b (encode F is) in
    let first : layout_of F (p ++ b) ≡ checked_of (Messages (length (noted es (moved F at m)))) (noted es (moved F at m)) =
    rw l at (one-goes F p s es m f.0 j.0 (omega arith) (omega arith) so_far (rw (d, l) j.1) j.2) in
    rw (← append_assoc p b (encode F is))
    (joins F is (p ++ b) (noted es (moved F at m)) to (at + size_of F m) (be32-local p b 0 (omega arith) ∙ d) (length-append p b ∙ omega arith) f.1 (omega arith) (omega arith) first j.3)

-- ---- they read back

all_fit : (is : List Item) (i : Item) → AllHaveWidths is → HasWidths i.message → AllHaveWidths (is ++ (i ∷ []))
all_fit [] i f g = (g, tt)
all_fit (x ∷ is) i f g = (f.0, all_fit is i f.1 g)

chain : (F : Format) (is : List Item) (i : Item) (to at : ℕ) (es : List ℕ) → Joining F to at es is → writable F (length i.source) i.message ≡ true → allowed F i.message ≡ true → Chain F (is ++ (i ∷ []))
chain F [] i to at es j w g = (w, g, nothing_behind i.message, tt)
chain F (x ∷ is) i to at es j w g =
    (j.0, good-message F es to at x.message j.1, goes-behind x.message (encode F (is ++ (i ∷ []))) j.2, chain F is i to (at + size_of F x.message) (noted es (moved F at x.message)) j.3 w g)

encode-last : (F : Format) (is : List Item) (i : Item) → encode F (is ++ (i ∷ [])) ≡ encode F is ++ bytes_of F i.source i.message
encode-last F [] i = append-nil (bytes_of F i.source i.message)
encode-last F (x ∷ is) i =
    ap (λ (r : List ℕ). bytes_of F x.source x.message ++ r) (encode-last F is i) ∙ sym (append_assoc (bytes_of F x.source x.message) (encode F is) (bytes_of F i.source i.message))

-- Messages behind a destination, and one more, which may end the datagram.
pub composed_reads : (F : Format) (to : ℕ) (is : List Item) (i : Item) → to < 2 ^ 32 → AllHaveWidths is → HasWidths i.message → Joining F to min_size [] is
    → writable F (length i.source) i.message ≡ true → fault_behind F (noted_all F min_size [] is) to (min_size + length (encode F is)) i.message ≡ 0
    → min_size + length (encode F is) + size_of F i.message ≤ max_size → Reads F (bytes32 to ++ encode F (is ++ (i ∷ []))) to (is ++ (i ∷ []))
composed_reads F to is i h f g j w none short =
    let s = i.source in let m = i.message in let b = bytes_of F s m in
    let es = noted_all F min_size [] is in
    let q = bytes32 to ++ encode F is in
    let d : be32 q 0 ≡ to = destination to (encode F is) h in
    let l : length q ≡ min_size + length (encode F is) = length-append (bytes32 to) (encode F is) ∙ ap (λ (k : ℕ). k + length (encode F is)) (size32 to) in
    let to_is : be32 (bytes32 to) 0 ≡ to = ap (λ (r : List ℕ). be32 r 0) (sym (append-nil (bytes32 to))) ∙ destination to [] h in
    let so_far = joins F is (bytes32 to) [] to min_size to_is (size32 to) f (omega arith) (omega arith) (alone F (bytes32 to) (size32 to)) j in
    let same : bytes32 to ++ encode F (is ++ (i ∷ [])) ≡ q ++ b = ap (λ (r : List ℕ). bytes32 to ++ r) (encode-last F is i) ∙ sym (append_assoc (bytes32 to) (encode F is) b) in
    let all = is ++ (i ∷ []) in
    let c = chain F is i to min_size [] j w (good-message F es to (min_size + length (encode F is)) m none) in
    record {
      to_channel = destination to (encode F all) h;
      messages = rw (size32 to) at (list_back F all (all_fit is i f g) c (bytes32 to) (length (bytes32 to ++ encode F all)) (omega (arith, size32 to)));
      passes = rw same (one_passes F q s es m g w (omega arith) (omega arith) so_far (rw (d, l) none));
    }
