-- What was read is written back byte for byte. Assumes nothing.
use Prim.Native.Nat.{ℕ, zero, suc, ◌+◌, ◌<◌, ◌≤◌}
use native.Mathlib.Omega.{arith}
use mathlib.Core.Path.{◌≡◌, refl, sym, ap, ap₂, ◌∙◌}
use mathlib.Core.List.{List, [], ◌∷◌, ◌++◌, append_assoc}
use mathlib.Core.Bool.{Bool, true, false}
use lib.Dec.{eqb}
use borrow.Author.Tests.{le-ltb, eqb-true}
use lib.ListN.{length, take, drop, take-append-drop, length-append, length-drop}
use lib.Seq.{take_at, length-take-le, drop-length, get_or-drop}
use Rattle.base.specs.Pick.{pick}
use Rattle.base.specs.Out.{out_of}
use Rattle.wire.specs.Bytes.{be32, placed}
use Rattle.wire.specs.Limits.{min_size, max_size}
use Rattle.wire.specs.Read.{cursor, step_at}
use Rattle.wire.specs.Layout.{Checked, checked_of, number_of, seen, handshake_fault, or_fault, handshake_layout, layout_step, layout_from, layout_of}
use Rattle.wire.specs.declared.message.Options.{Options}
use Rattle.wire.specs.declared.message.Options.TheVariants.{Fixed, EndOnly, Other}
use Rattle.wire.specs.declared.message.Message.{Message}
use Rattle.wire.specs.declared.message.Message.TheVariants.{Handshake, Data, Ack, Have, Integrity, Request, Cancel, Choke, Unchoke, Empty}
use Rattle.wire.specs.declared.message.Step.{Step}
use Rattle.wire.specs.declared.message.Step.TheVariants.{Read, End, Refused}
use Rattle.wire.specs.Layout.{Fault, HandshakeAlone, Messages}
use Rattle.writer.specs.Message.{bytes_of}
use Rattle.writer.specs.Add.{add_answer, add_spec}
use Rattle.writer.specs.Lists.{Item, item_of, AreBytes, on_step, read_from, Rewritable, add_all}
use Rattle.writer.specs.Steps.{size_of, fault_behind, allowed}
use Rattle.wire.proofs.PlacedLaws.{placed-none, placed-then, placed-front, placed-length}
use Rattle.wire.proofs.LocalLaws.{be32-local}
use Rattle.wire.proofs.ViewLaws.{View, the_end, refused, a_handshake, a_data, an_ack, a_have, an_integrity, a_request, a_cancel, a_choke, an_unchoke, view, an_empty}
use Rattle.wire.specs.declared.message.Cursor.{Cursor}
use Rattle.writer.proofs.AcceptLaws.{size_some}
use Rattle.writer.proofs.ReadBackLaws.{read-over}
use Rattle.writer.proofs.SizeLaws.{bytes-length}
use Rattle.writer.proofs.AddLaws.{joined, rest_is, behind-step, behind-number}
use Rattle.writer.proofs.SplitLaws.{Split, Known, split}
use Rattle.format.specs.declared.Format.{Format}

-- ---- one message of a datagram that passes the checks, behind entries es

-- A message that does not end a datagram.
abbrev pub Goes : Message → Type 0
Goes (Handshake a o) = ⊥
Goes (Data f l x b n) = ⊥
Goes (Ack f l d) = Unit {0}
Goes (Have f l) = Unit {0}
Goes (Integrity f l h) = Unit {0}
Goes (Request f l) = Unit {0}
Goes (Cancel f l) = Unit {0}
Goes Choke = Unit {0}
Goes Unchoke = Unit {0}
Goes (Empty k) = Unit {0}

-- The entries with it.
abbrev pub noted : List ℕ → Message → List ℕ
noted es (Handshake a o) = es
noted es (Data f l x b n) = es
noted es (Ack f l d) = es
noted es (Have f l) = es
noted es (Integrity f l h) = es ++ ((f + l) ∷ h ∷ [])
noted es (Request f l) = es
noted es (Cancel f l) = es
noted es Choke = es
noted es Unchoke = es
noted es (Empty k) = es

-- tests that gave 0
number_of_lem : (n : ℕ) (a : ℕ) (o : Options) → number_of (or_fault n (HandshakeAlone a o)) ≡ 0 → n ≡ 0
number_of_lem zero a o e = refl
number_of_lem (suc n) a o e = absurd (omega (arith, e))

first_of : (x y : Bool) (n : ℕ) → pick x (pick y n 3) 3 ≡ 0 → (x ≡ true) × (y ≡ true) × (n ≡ 0)
first_of true true n e = (refl, refl, e)
first_of true false n e = absurd (omega arith)
first_of false y n e = absurd (omega arith)

module _ (F : Format) (s es : List ℕ) (at next : ℕ) (rest : List ℕ → ℕ → Checked) where
  unseen : (x : Bool) (gs : List ℕ) (c : Checked) → number_of (pick x (checked_of (Fault 2) gs) c).layout ≡ 0 → (x ≡ false) × (pick x (checked_of (Fault 2) gs) c ≡ c)
  unseen true gs c e = absurd (omega (arith, e))
  unseen false gs c e = (refl, refl)

  -- the pass goes on behind it
  pub goes_on : (m : Message) → Goes m → number_of (layout_step s es at (Read m (cursor next)) rest).layout ≡ 0 → layout_step s es at (Read m (cursor next)) rest ≡ rest (noted es m) next
  goes_on (Handshake a o) g e = absurd g
  goes_on (Data f l x b n) g e = absurd g
  goes_on (Ack f l d) g e = refl
  goes_on (Have f l) g e = refl
  goes_on (Integrity f l h) g e = (unseen (seen (f + l) es) es (rest (es ++ ((f + l) ∷ h ∷ [])) next) e).1
  goes_on (Request f l) g e = refl
  goes_on (Cancel f l) g e = refl
  goes_on Choke g e = refl
  goes_on Unchoke g e = refl
  goes_on (Empty k) g e = refl

  -- it gets no number behind the same entries
  pub no-fault : (m : Message) → allowed F m ≡ true → number_of (layout_step s es at (Read m (cursor next)) rest).layout ≡ 0 → fault_behind F es (be32 s 0) at m ≡ 0
  unfolding handshake_layout
  no-fault (Handshake a o) g e =
      let f = first_of (eqb at min_size) (eqb next (length s)) (handshake_fault (be32 s 0) a o) (number_of_lem _ a o e) in
      rw (f.0, f.2)
  no-fault (Data f l x b n) g e = rw g
  no-fault (Ack f l d) g e = rw g
  no-fault (Have f l) g e = rw g
  no-fault (Integrity f l h) g e = rw (g, (unseen (seen (f + l) es) es (rest (es ++ ((f + l) ∷ h ∷ [])) next) e).0)
  no-fault (Request f l) g e = rw g
  no-fault (Cancel f l) g e = rw g
  no-fault Choke g e = refl
  no-fault Unchoke g e = refl
  no-fault (Empty k) g e = refl

-- ---- the datagram s is written as far as `at`, in a room, and has the entries es there
pub record Here (F : Format) (s es room : List ℕ) (at : ℕ) : Type 0 where
  pub low : min_size ≤ at
  pub inside : at ≤ length s
  pub short : length s ≤ max_size
  pub big : max_size ≤ length room
  pub same : take at room ≡ take at s
  pub so_far : layout_of F (take at s) ≡ checked_of (Messages (length es)) es

module _ (F : Format) (s es room : List ℕ) (at : ℕ) (h : Here F s es room at) (m : Message) (next : ℕ) (x : Split F s at m next) (rest : List ℕ → ℕ → Checked)
    (zero_number : number_of (layout_step s es at (Read m (cursor next)) rest).layout ≡ 0) where
  p-length : length (take at s) ≡ at
  p-length = length-take-le at s h.inside

  next-is : take next s ≡ take at s ++ bytes_of F s m
  next-is =
      let e : (take at s ++ bytes_of F s m) ++ drop next s ≡ s = append_assoc (take at s) (bytes_of F s m) (drop next s) ∙ ap (λ (r : List ℕ). take at s ++ r) x.bytes ∙ take-append-drop at s in
      let l : length (take at s ++ bytes_of F s m) ≡ next = omega (arith, length-append (take at s) (bytes_of F s m), bytes-length F s m x.can, p-length, x.size) in
      ap (take next) (sym e) ∙ take_at (take at s ++ bytes_of F s m) (drop next s) next l

  fits : length (take at s) + size_of F m ≤ max_size
  fits = omega (arith, p-length, x.size, x.inside, h.short)

  low : min_size ≤ length (take at s)
  low = omega (arith, p-length, h.low)

  on : (k : ℕ) → length (bytes_of F s m) < k → layout_of F (take at s ++ bytes_of F s m) ≡ layout_from F k (take at s ++ bytes_of F s m) es (length (take at s))
  on = rw h.so_far at (joined F (take at s) s m x.can low fits)

  destination : be32 (take at s) 0 ≡ be32 s 0
  destination = sym (be32-local (take at s) (drop at s) 0 low) ∙ ap (λ (r : List ℕ). be32 r 0) (take-append-drop at s)

  longer : number_of (layout_of F (take at s ++ bytes_of F s m)).layout ≡ 0
  longer =
      behind-number F (take at s) s m x.can low fits x.fits es (layout_of F (take at s ++ bytes_of F s m)) on
      ∙ rw (destination, p-length) (no-fault F s es at next rest m x.good zero_number)

  answer : add_answer F room at m s ≡ 0
  unfolding add_answer
  answer =
      rw (le-ltb (length room) max_size h.big, le-ltb max_size at (omega (arith, h.inside, h.short)), h.same, h.so_far, x.can, longer)

  -- it is added
  pub step_added : (is : List Item) → add_all F room at (item_of s m ∷ is) ≡ add_all F (placed room at (bytes_of F s m)) next is
  unfolding add_spec
  step_added is = rw (answer, x.size, bytes-length F s m x.can)

  new-length : length (placed room at (bytes_of F s m)) ≡ length room
  new-length = placed-length room at (bytes_of F s m) refl

  -- what stands behind it stands behind both
  pub step-joined : placed (placed room at (bytes_of F s m)) next (drop next s) ≡ placed room at (drop at s)
  step-joined =
      placed-then room at (bytes_of F s m) (drop next s) next (omega (arith, bytes-length F s m x.can, x.size)) refl refl ∙ ap (placed room at) x.bytes

  -- and the datagram is written as far as its end
  pub step-here : Goes m → Here F s (noted es m) (placed room at (bytes_of F s m)) next
  step-here g =
      let n = bytes-length F s m x.can in
      let front : take next (placed room at (bytes_of F s m)) ≡ take at room ++ bytes_of F s m =
      rw x.size (rw (← n) (placed-front room at (bytes_of F s m) (omega (arith, n, h.big, fits, p-length)))) in
      let step : layout_of F (take at s ++ bytes_of F s m) ≡ layout_step (take at s ++ bytes_of F s m) es (length (take at s)) (Read m (cursor (length (take at s) + size_of F m)))
      (λ gs next'. layout_from F (suc (length (bytes_of F s m))) (take at s ++ bytes_of F s m) gs next') =
      behind-step F (take at s) s m x.can low fits x.fits es (layout_of F (take at s ++ bytes_of F s m)) on ∙ rw (x.good, p-length, x.here) in
      record {
        low = omega (arith, h.low, x.size);
        inside = x.inside;
        short = h.short;
        big = omega (arith, h.big, new-length);
        same = front ∙ ap (λ (r : List ℕ). r ++ bytes_of F s m) h.same ∙ sym next-is;
        so_far = rw next-is
            (step ∙ goes_on F (take at s ++ bytes_of F s m) es (length (take at s)) (length (take at s) + size_of F m) (λ gs next'. layout_from F (suc (length (bytes_of F s m))) (take at s ++ bytes_of F s m) gs next') m g (sym (ap (λ (c : Checked). number_of c.layout) step) ∙ longer)
            ∙ rest_is F (take at s) s m x.can low fits x.fits es (layout_of F (take at s ++ bytes_of F s m)) on (noted es m));
      }

-- ---- all messages

known : (k a : ℕ) (o : Options) (next : Cursor) → number_of (or_fault k (HandshakeAlone a o)) ≡ 0 → Rewritable (or_fault k (HandshakeAlone a o)) → Known (Read (Handshake a o) next)
known zero a (Fixed r) next z w = tt
known zero a EndOnly next z w = tt
known zero a Other next z w = absurd (w a refl)
known (suc k) a o next z w = absurd (omega (arith, z))

-- one message, and those behind it
module _ (F : Format) (n : ℕ) (s es room : List ℕ) (at : ℕ) (small : AreBytes s) (h : Here F s es room at) (turns : length s < at + suc n)
    (more : (gs room' : List ℕ) (next : ℕ) → Here F s gs room' next → length s < next + n → number_of (layout_from F n s gs next).layout ≡ 0
    → Rewritable (layout_from F n s gs next).layout → add_all F room' next (read_from F n s next) ≡ out_of 0 (length s) (placed room' next (drop next s))) where
  abbrev rest : List ℕ → ℕ → Checked
  rest gs next = layout_from F n s gs next

  abbrev AllWritten : List Item → Type 0
  AllWritten is = add_all F room at is ≡ out_of 0 (length s) (placed room at (drop at s))

  bytes-here : AreBytes (drop at s)
  bytes-here i = rw (get_or-drop at s i 0) (small (at + i))

  -- the last one
  ends : (m : Message) (next : ℕ) → Split F s at m next → next ≡ length s → number_of (layout_step s es at (Read m (cursor next)) rest).layout ≡ 0 → AllWritten (item_of s m ∷ read_from F n s next)
  ends m next x e z =
      let none : drop next s ≡ [] = rw e (drop-length s) in
      step_added F s es room at h m next x rest z (read_from F n s next)
      ∙ ap (add_all F (placed room at (bytes_of F s m)) next) (read-over F n s next (omega (arith, e)))
      ∙ ap₂ (out_of 0) e (placed-none (placed room at (bytes_of F s m)) next ∙ ap (placed (placed room at (bytes_of F s m)) next) (sym none) ∙ step-joined F s es room at h m next x rest z)

  -- one that does not end the datagram
  goes : (m : Message) (next : ℕ) → Goes m → Split F s at m next → number_of (layout_step s es at (Read m (cursor next)) rest).layout ≡ 0
      → Rewritable (layout_step s es at (Read m (cursor next)) rest).layout → AllWritten (item_of s m ∷ read_from F n s next)
  goes m next g x z w =
      let e = goes_on F s es at next rest m g z in
      step_added F s es room at h m next x rest z (read_from F n s next)
      ∙ more (noted es m) (placed room at (bytes_of F s m)) next (step-here F s es room at h m next x rest z g) (omega (arith, turns, x.size, size_some F m)) (rw e at z) (rw e at w)
      ∙ ap (out_of 0 (length s)) (step-joined F s es room at h m next x rest z)

  alone : (a : ℕ) (o : Options) (next : ℕ) → View F at (drop at s) (Read (Handshake a o) (cursor next)) → number_of (layout_step s es at (Read (Handshake a o) (cursor next)) rest).layout ≡ 0
      → Rewritable (layout_step s es at (Read (Handshake a o) (cursor next)) rest).layout → AllWritten (item_of s (Handshake a o) ∷ read_from F n s next)
  unfolding handshake_layout
  alone a o next v z w =
      let k = pick (eqb at min_size) (pick (eqb next (length s)) (handshake_fault (be32 s 0) a o) 3) 3 in
      let f = first_of (eqb at min_size) (eqb next (length s)) (handshake_fault (be32 s 0) a o) (number_of_lem k a o z) in
      ends (Handshake a o) next (split F s at bytes-here h.inside (Read (Handshake a o) (cursor next)) v (known k a o (cursor next) z w)) (eqb-true next (length s) f.1) z

  pub step_back : (st : Step) → View F at (drop at s) st → number_of (layout_step s es at st rest).layout ≡ 0 → Rewritable (layout_step s es at st rest).layout
      → AllWritten (on_step s st (λ next. read_from F n s next))
  step_back End (the_end l) z w =
      let e : at ≡ length s = omega (arith, h.inside, length-drop at s, l) in
      ap₂ (out_of 0) e (placed-none room at ∙ ap (placed room at) (sym (rw e (drop-length s))))
  step_back Refused refused z w = absurd (omega (arith, z))
  step_back _ (a_handshake e l o) z w = alone _ _ _ (a_handshake e l o) z w
  step_back _ (a_data e l o) z w = ends _ _ (split F s at bytes-here h.inside _ (a_data e l o) tt) (omega (arith, length-drop at s, h.inside)) z
  step_back _ (an_ack e l o) z w = goes _ _ tt (split F s at bytes-here h.inside _ (an_ack e l o) tt) z w
  step_back _ (a_have e l o) z w = goes _ _ tt (split F s at bytes-here h.inside _ (a_have e l o) tt) z w
  step_back _ (an_integrity e l o) z w = goes _ _ tt (split F s at bytes-here h.inside _ (an_integrity e l o) tt) z w
  step_back _ (a_request e l o) z w = goes _ _ tt (split F s at bytes-here h.inside _ (a_request e l o) tt) z w
  step_back _ (a_cancel e l o) z w = goes _ _ tt (split F s at bytes-here h.inside _ (a_cancel e l o) tt) z w
  step_back _ (a_choke e l) z w = goes _ _ tt (split F s at bytes-here h.inside _ (a_choke e l) tt) z w
  step_back _ (an_unchoke e l) z w = goes _ _ tt (split F s at bytes-here h.inside _ (an_unchoke e l) tt) z w
  step_back _ (an_empty k q e l o) z w = goes _ _ tt (split F s at bytes-here h.inside _ (an_empty k q e l o) tt) z w

pub write-back : (F : Format) (n : ℕ) (s es room : List ℕ) (at : ℕ) → AreBytes s → Here F s es room at → length s < at + n
    → number_of (layout_from F n s es at).layout ≡ 0 → Rewritable (layout_from F n s es at).layout
    → add_all F room at (read_from F n s at) ≡ out_of 0 (length s) (placed room at (drop at s))
unfolding layout_from read_from
write-back F zero s es room at small h k z r = absurd (omega (arith, h.inside))
write-back F (suc n) s es room at small h k z r =
    step_back F n s es room at small h k (λ gs room' next h' k' z' r'. write-back F n s gs room' next small h' k' z' r') (step_at F s at) (view F at (drop at s)) z r
