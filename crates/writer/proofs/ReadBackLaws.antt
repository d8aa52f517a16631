-- What was written reads back as the same messages. Assumes nothing.
use Prim.Native.Nat.{ℕ, zero, suc, ◌+◌, ◌<◌, ◌≤◌}
use native.Mathlib.Omega.{arith}
use native.Mathlib.Nat.{add-zero}
use mathlib.Core.Path.{◌≡◌, refl, sym, ap, ap₂, ◌∙◌}
use mathlib.Core.List.{List, [], ◌∷◌, ◌++◌, append_assoc, append-nil}
use mathlib.Core.Bool.{true, true≢false}
use borrow.Author.Tests.{ne_eqb}
use lib.ListN.{length, take, drop, length-append, length-drop}
use lib.Seq.{drop_at, take_at, drop-append_seam, drop-append-add, length-take-le}
use Rattle.base.specs.Out.{Out, out_of}
use Rattle.wire.specs.Bytes.{placed}
use Rattle.wire.specs.Options.{fixed_head, fixed_tail, root_place}
use Rattle.wire.specs.Read.{cursor, step_of, step_at}
use Rattle.wire.specs.Layout.{Checked, number_of, layout_of}
use Rattle.wire.specs.declared.message.Options.{Options}
use Rattle.wire.specs.declared.message.Options.TheVariants.{Fixed, EndOnly, Other}
use Rattle.wire.specs.declared.message.Message.{Message}
use Rattle.wire.specs.declared.message.Message.TheVariants.{Handshake, Data, Ack, Have, Integrity, Request, Cancel, Choke, Unchoke, Empty}
use Rattle.wire.specs.declared.message.Step.{Step}
use Rattle.wire.specs.declared.message.Step.TheVariants.{Read, End}
use Rattle.wire.specs.Layout.{Messages}
use Rattle.wire.proofs.PlacedLaws.{placed-none, placed-then, placed-front}
use Rattle.wire.proofs.ViewLaws.{end_is}
use Rattle.writer.specs.Bytes.{bytes32, bytes64, name_bytes}
use Rattle.writer.specs.Message.{within, option_bytes, bytes_of, writable, writable_options}
use Rattle.writer.specs.Steps.{size_of, allowed}
use Rattle.writer.specs.Add.{has_data, add_answer, add_spec}
use Rattle.writer.specs.Lists.{Item, item_of, encode, HasWidths, AllHaveWidths, content_of, contents_of, on_step, read_from, and_then, add_all}
use Rattle.writer.proofs.PlaceLaws.{size64, size_name}
use Rattle.writer.proofs.SourceLaws.{within-length}
use Rattle.writer.proofs.SizeLaws.{lies_in, bytes-length}
use Rattle.writer.proofs.BackLaws.{moved, Behind, message-back}
use Rattle.writer.proofs.AddLaws.{joined, behind-step}
use Rattle.writer.proofs.AcceptLaws.{tested, Accepted, accepted, size_some}
use Rattle.format.specs.declared.Format.{Format}
use Rattle.wire.specs.Place.{named_size, timed_size}

-- ---- a message's own bytes, in the datagram where it was written

-- n bytes behind the i bytes a of what stands behind p
found : (p a w r : List ℕ) (i n : ℕ) → length a ≡ i → length w ≡ n → within (p ++ ((a ++ w) ++ r)) (length p + i) n ≡ w
found p a w r i n ha hw =
    ap (take n) (drop-append-add p ((a ++ w) ++ r) i ∙ ap (drop i) (append_assoc a w r) ∙ drop_at a (w ++ r) i ha) ∙ take_at w r n hw

module _ (F : Format) (p s r : List ℕ) where
  same-options : (a : ℕ) (o : Options) → writable F (length s) (Handshake a o) ≡ true
      → content_of (p ++ (bytes_of F s (Handshake a o) ++ r)) (moved F (length p) (Handshake a o)) ≡ content_of s (Handshake a o)
  unfolding bytes_of option_bytes writable writable_options bytes32
  same-options a (Fixed b) w =
      let v = within s b 32 in
      let h = within-length s b 32 (lies_in (length s) b 32 w) in
      let c : List ℕ = 0 ∷ bytes32 a ++ fixed_head in
      let e : (0 ∷ bytes32 a ++ (fixed_head ++ (v ++ fixed_tail F))) ++ r ≡ (c ++ v) ++ (fixed_tail F ++ r) = ap (λ (x : List ℕ). c ++ x) (append_assoc v (fixed_tail F) r) in
      let i : length p + 5 + root_place ≡ length p + 12 = omega arith in
      ap (λ (x : List ℕ). item_of x (Handshake a (Fixed 0))) (rw i (ap (λ (x : List ℕ). within (p ++ x) (length p + 12) 32) e ∙ found p c v (fixed_tail F ++ r) 12 32 refl h))
  same-options a EndOnly w = refl
  same-options a Other w = refl

  pub same-content : (m : Message) → writable F (length s) m ≡ true → content_of (p ++ (bytes_of F s m ++ r)) (moved F (length p) m) ≡ content_of s m
  unfolding bytes_of writable
  same-content (Handshake a o) w = same-options a o w
  same-content (Data f l x b n) w =
      let v = within s b n in
      let e : length (name_bytes F 1 f l ++ bytes64 x) ≡ timed_size F = omega (arith, length-append (name_bytes F 1 f l) (bytes64 x), size_name F 1 f l, size64 x) in
      ap (λ (y : List ℕ). item_of y (Data f l x 0 n))
      (rw (← append_assoc (name_bytes F 1 f l) (bytes64 x) v) (found p (name_bytes F 1 f l ++ bytes64 x) v r (timed_size F) n e (within-length s b n (lies_in (length s) b n w))))
  same-content (Ack f l d) w = refl
  same-content (Have f l) w = refl
  same-content (Integrity f l h) w =
      ap (λ (y : List ℕ). item_of y (Integrity f l 0)) (found p (name_bytes F 4 f l) (within s h 32) r (named_size F) 32 (size_name F 4 f l) (within-length s h 32 (lies_in (length s) h 32 w)))
  same-content (Request f l) w = refl
  same-content (Cancel f l) w = refl
  same-content Choke w = refl
  same-content Unchoke w = refl
  same-content (Empty k) w = refl

-- ---- lists of messages that can be written one after another
abbrev pub Chain : (F : Format) → List Item → Type 0
Chain F [] = Unit {0}
Chain F (i ∷ is) = (writable F (length i.source) i.message ≡ true) × (allowed F i.message ≡ true) × Behind i.message (encode F is) × Chain F is

-- one turn of reading
read-suc : (F : Format) (n : ℕ) (s : List ℕ) (at : ℕ) (st : Step) → step_at F s at ≡ st → read_from F (suc n) s at ≡ on_step s st (λ next. read_from F n s next)
unfolding read_from
read-suc F n s at st e = ap (λ (x : Step). on_step s x (λ next. read_from F n s next)) e

pub read-over : (F : Format) (n : ℕ) (s : List ℕ) (at : ℕ) → length s ≤ at → read_from F n s at ≡ []
unfolding read_from
read-over F zero s at h = refl
read-over F (suc n) s at h = read-suc F n s at End (end_is F at (drop at s) (omega (arith, length-drop at s)))

-- They read back, behind any bytes p.
pub list_back : (F : Format) (is : List Item) → AllHaveWidths is → Chain F is → (p : List ℕ) (n : ℕ) → length (p ++ encode F is) < length p + n → contents_of (read_from F n (p ++ encode F is) (length p)) ≡ contents_of is
list_back F [] f c p n h = ap contents_of (read-over F n (p ++ []) (length p) (omega (arith, length-append p [])))
list_back F (i ∷ is) f c p zero h = absurd (omega (arith, length-append p (encode F (i ∷ is))))
list_back F (i ∷ is) f c p (suc n) h =
    let s = i.source in let m = i.message in let b = bytes_of F s m in
    let d = p ++ (b ++ encode F is) in
    let at = length p in
    let st : step_at F d at ≡ Read (moved F at m) (cursor (at + size_of F m)) =
    ap (step_of F at) (drop-append_seam p (b ++ encode F is)) ∙ message-back F s at m f.0 c.0 (encode F is) c.2 ∙ rw c.1 in
    let size : length (p ++ b) ≡ at + size_of F m = length-append p b ∙ ap (λ (k : ℕ). at + k) (bytes-length F s m c.0) in
    let same : (p ++ b) ++ encode F is ≡ d = append_assoc p b (encode F is) in
    let more : contents_of (read_from F n d (at + size_of F m)) ≡ contents_of is =
    rw (← same) (rw (← size) (list_back F is f.1 c.3 (p ++ b) n (omega (arith, ap length same, size, h, size_some F m)))) in
    ap contents_of (read-suc F n d at (Read (moved F at m) (cursor (at + size_of F m))) st)
    ∙ ap₂ (λ (x : Item) (xs : List Item). x ∷ xs) (same-content F p s (encode F is) m c.0) more

-- ---- messages that were accepted one after another

-- nothing follows a refusal
stays : (r : Out (List ℕ)) (rest : List ℕ → ℕ → Out (List ℕ)) (w : ℕ) → r.answer ≡ suc w → and_then r rest ≡ r
stays r rest w e = rw (ne_eqb r.answer 0 (λ z. omega (arith, e, z)))

-- one accepted message, and what is added behind it
one_more : (F : Format) (room : List ℕ) (len : ℕ) (m : Message) (source : List ℕ) (w : ℕ) → add_answer F room len m source ≡ w → (rest : List ℕ → ℕ → Out (List ℕ))
    → (and_then (add_spec F room len m source) rest).answer ≡ 0
    → (add_answer F room len m source ≡ 0) × (and_then (add_spec F room len m source) rest ≡ rest (placed room len (bytes_of F source m)) (len + length (bytes_of F source m)))
unfolding add_spec
one_more F room len m source zero e rest z = (e, rw e)
one_more F room len m source (suc w) e rest z =
    absurd (omega (arith, ap (λ (r : Out (List ℕ)). r.answer) (sym (refused e)), z))
  where
    refused : add_answer F room len m source ≡ suc w → and_then (add_spec F room len m source) rest ≡ out_of (suc w) 0 room
    refused q = stays (add_spec F room len m source) rest w (rw q) ∙ rw q

-- DATA ends a datagram: nothing is accepted behind it
data_last : (F : Format) (p s : List ℕ) (c d x b n : ℕ) → HasWidths (Data c d x b n) → Accepted F p (Data c d x b n) s → (k : ℕ) → (layout_of F (p ++ bytes_of F s (Data c d x b n))).layout ≡ Messages k → ⊥
data_last F p s c d x b n f a k e =
    let m = Data c d x b n in
    let on = rw a.plain at (joined F p s m a.can a.low a.fits) in
    let q = rw a.good at (behind-step F p s m a.can a.low a.fits f (layout_of F p).entries (layout_of F (p ++ bytes_of F s m)) on) in
    true≢false (sym (ap (λ (y : Checked). has_data y.layout) q) ∙ ap has_data e)

accepted_behind : (F : Format) (p s : List ℕ) (m : Message) → HasWidths m → Accepted F p m s → (room : List ℕ) (len : ℕ) → take len room ≡ p ++ bytes_of F s m
    → (is : List Item) → AllHaveWidths is → (add_all F room len is).answer ≡ 0 → Behind m (encode F is)
accepted_behind F p s (Handshake a o) f w room len e is g z = tt
accepted_behind F p s (Ack a b d) f w room len e is g z = tt
accepted_behind F p s (Have a b) f w room len e is g z = tt
accepted_behind F p s (Integrity a b d) f w room len e is g z = tt
accepted_behind F p s (Request a b) f w room len e is g z = tt
accepted_behind F p s (Cancel a b) f w room len e is g z = tt
accepted_behind F p s Choke f w room len e is g z = tt
accepted_behind F p s Unchoke f w room len e is g z = tt
accepted_behind F p s (Empty k) f w room len e is g z = tt
accepted_behind F p s (Data c d x b n) f w room len e [] g z = refl
accepted_behind F p s (Data c d x b n) f w room len e (i ∷ is) g z =
    let o = one_more F room len i.message i.source (add_answer F room len i.message i.source) refl (λ room' len'. add_all F room' len' is) z in
    let a = accepted F room len i.message i.source g.0 o.0 in
    absurd (data_last F p s c d x b n f w a.entries (ap (λ (y : List ℕ). (layout_of F y).layout) (sym e) ∙ a.plain))

-- What was accepted stands behind the datagram so far, and the rest of the room is as it was.
pub added : (F : Format) (is : List Item) (room : List ℕ) (len : ℕ) → AllHaveWidths is → (add_all F room len is).answer ≡ 0
    → (add_all F room len is ≡ out_of 0 (len + length (encode F is)) (placed room len (encode F is))) × Chain F is
    × (number_of (layout_of F (take len room)).layout ≡ 0 → number_of (layout_of F (take len room ++ encode F is)).layout ≡ 0)
added F [] room len f z = (ap₂ (out_of 0) (sym (add-zero len)) (placed-none room len), tt, λ e. rw (append-nil (take len room)) e)
added F (i ∷ is) room len f z =
    let s = i.source in let m = i.message in let b = bytes_of F s m in
    let o = one_more F room len m s (add_answer F room len m s) refl (λ room' len'. add_all F room' len' is) z in
    let t = tested F room len m s o.0 in
    let a = accepted F room len m s f.0 o.0 in
    let n = bytes-length F s m a.can in
    let p = take len room in
    let l : length p ≡ len = length-take-le len room (omega (arith, t.short, t.big)) in
    let new = placed room len b in
    let y : (add_all F new (len + length b) is).answer ≡ 0 = sym (ap (λ (k : Out (List ℕ)). k.answer) o.1) ∙ z in
    let r = added F is new (len + length b) f.1 y in
    let front : take (len + length b) new ≡ p ++ b = placed-front room len b (omega (arith, n, a.fits, l, t.big)) in
    let join : placed new (len + length b) (encode F is) ≡ placed room len (b ++ encode F is) = placed-then room len b (encode F is) (len + length b) refl refl refl in
    let size : len + length b + length (encode F is) ≡ len + length (b ++ encode F is) = omega (arith, length-append b (encode F is)) in (
      o.1 ∙ r.0 ∙ ap₂ (out_of 0) size join,
      (a.can, a.good, accepted_behind F p s m f.0 a new (len + length b) front is f.1 y, r.1),
      λ e. rw (← append_assoc p b (encode F is)) (rw (← front) (r.2 (rw front t.longer))),
    )
