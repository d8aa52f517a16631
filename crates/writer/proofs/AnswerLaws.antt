-- The answers of begin and add, test by test as the code has them. Assumes nothing.
use Prim.Native.Nat.{ℕ, zero, suc, ◌+◌, ◌-◌, ◌<◌, ◌≤◌}
use native.Mathlib.Omega.{arith}
use mathlib.Core.Path.{◌≡◌, refl, sym, ap, ap₂, ◌∙◌}
use mathlib.Core.List.{List, [], ◌++◌}
use mathlib.Core.Bool.{Bool, true, false, not}
use lib.ListN.{length, take, length-append}
use lib.Seq.{length-take-le}
use borrow.Author.Tests.{lt-ltb, le-ltb, eq-eqb, ne_eqb}
use Rattle.base.specs.Pick.{pick, earlier}
use Rattle.base.specs.Out.{Answers, answer_of, out_at, out_of}
use Rattle.base.specs.Refusal.{number, node}
use Rattle.base.specs.declared.Refusal.{Refusal}
use Rattle.std.specs.Prelude.{Result, Ok, Err, OnOk}
use Rattle.base.proofs.OutLaws.{unless-refused, unless-passed}
use Rattle.std.specs.Prelude.{Option, Some, None}
use Rattle.wire.specs.Bytes.{be32, placed}
use Rattle.wire.specs.Limits.{min_size, max_size}
use Rattle.wire.specs.Layout.{Checked, checked_of, number_of, seen, is_end_only, handshake_fault, layout_of}
use Rattle.wire.specs.Steps.{entry_words, has_size, check_spec, Fronted}
use Rattle.wire.specs.declared.pass.Front.{Front}
use Rattle.wire.specs.declared.message.Options.{Options}
use Rattle.wire.specs.declared.message.Message.{Message}
use Rattle.wire.specs.declared.message.Message.TheVariants.{Handshake}
use Rattle.wire.specs.Layout.{Layout}
use Rattle.wire.specs.Layout.{Fault, HandshakeAlone, Messages, MessagesAndData}
use Rattle.wire.proofs.LayoutLaws.{layout_unsized}
use Rattle.wire.proofs.Promise.{front-layout}
use Rattle.wire.proofs.ExtendLaws.{Extended}
use Rattle.wire.proofs.FaultLaws.{Passed, passed, numbered, too_long}
use Rattle.wire.proofs.CountLaws.{Says, entries_fit}
use Rattle.wire.proofs.DataLaws.{layout-told, length-told, entries-told}
use Rattle.writer.specs.Bytes.{bytes32}
use Rattle.writer.specs.Message.{bytes_of, writable}
use Rattle.writer.specs.Add.{has_data, add_answer, begin_spec, add_spec}
use Rattle.writer.specs.Lists.{HasWidths}
use Rattle.writer.specs.Steps.{size_of, node_of, own_fault, seen_fault, behind_of, Addable}
use Rattle.writer.proofs.SizeLaws.{bytes-length}
use Rattle.writer.proofs.AcceptLaws.{size_some, own_good}
use Rattle.writer.proofs.AddLaws.{joined, behind-number}
use Rattle.format.specs.declared.Format.{Format}
use lib.Dec.{eqb}

-- ---- the number behind the datagram so far, by its layout

same_number : (n : ℕ) → n ≡ earlier n 0
same_number zero = refl
same_number (suc n) = refl

module _ (F : Format) (p source : List ℕ) (m : Message) (can : writable F (length source) m ≡ true) (low : min_size ≤ length p) (room : length p + size_of F m ≤ max_size) (widths : HasWidths m) where
  after : (l : Layout) (gs : List ℕ) (c : Checked) → Passed l → Extended F p (bytes_of F source m) l gs c
      → earlier (behind_of l gs (node_of m)) (own_fault F (be32 p 0) (length p) m) ≡ earlier (number_of c.layout) (pick (has_data l) 2 0)
  after (Fault n) gs c q x = absurd q
  after (HandshakeAlone a o) gs c q x = rw (x (omega (arith, bytes-length F source m can, size_some F m)))
  after (Messages j) gs c q x =
      sym (behind-number F p source m can low room widths gs c x) ∙ same_number (number_of c.layout)
  after (MessagesAndData a b d n j) gs c q x = rw x

  after_is : (l : Layout) → l ≡ (layout_of F p).layout → number_of l ≡ 0
      → earlier (behind_of l (layout_of F p).entries (node_of m)) (own_fault F (be32 p 0) (length p) m)
      ≡ earlier (number_of (layout_of F (p ++ bytes_of F source m)).layout) (pick (has_data l) 2 0)
  after_is l e z = rw e (after (layout_of F p).layout (layout_of F p).entries (layout_of F (p ++ bytes_of F source m)) (passed F p (ap number_of (sym e) ∙ z)).2 (joined F p source m can low room))

-- ---- what the datagram so far says

-- it has another size
pub told_unsized : (F : Format) (s : List ℕ) → has_size (length s) ≡ false → 1 ≡ number_of (layout_of F s).layout
told_unsized F s h = rw (layout_unsized F s h)

-- none but plain messages
pub told-plain : (F : Format) (s : List ℕ) (r : Option ℕ) (f : Front) → Fronted F s f → f.at ≡ length s
    → (number_of (layout_of F s).layout ≡ 0) × (0 ≡ behind_of (layout_of F s).layout (layout_of F s).entries r)
unfolding seen
told-plain F s r f p e = rw (front-layout F s f p e) (refl, none r)
  where
    none : (r : Option ℕ) → 0 ≡ seen_fault [] r
    none (Some b) = refl
    none None = refl

-- by its layout, as a pass told it
module _ (F : Format) (old s : List ℕ) (r : Option ℕ) {l : Layout} {es : List ℕ} (e : checked_of l es ≡ check_spec F old s) where
  told : {m : Layout} → l ≡ m → m ≡ (layout_of F s).layout
  told q = sym q ∙ layout-told F old s e

  pub fault_numbered : {n : ℕ} → l ≡ Fault n → (1 ≤ n) × (n ≤ 3)
  fault_numbered q = let g = numbered F s in rw (← told q) at g

  pub told-fault : {n : ℕ} → l ≡ Fault n → n ≡ number_of (layout_of F s).layout
  told-fault q = rw (← told q)

  pub told-handshake : {a : ℕ} {o : Options} → l ≡ HandshakeAlone a o
      → (number_of (layout_of F s).layout ≡ 0) × (3 ≡ behind_of (layout_of F s).layout (layout_of F s).entries r)
  told-handshake q = rw (← told q) (refl, refl)

  pub told-data : {c x b n k : ℕ} → l ≡ MessagesAndData c x b n k
      → (number_of (layout_of F s).layout ≡ 0) × (2 ≡ behind_of (layout_of F s).layout (layout_of F s).entries r)
  told-data q = rw (← told q) (refl, refl)

  module _ {k : ℕ} (q : l ≡ Messages k) where
    counted : k ≡ length (layout_of F s).entries
    counted = says (entries_fit F s).0 (told q)
      where
        says : {m : Layout} {j : ℕ} → Says m j → Messages k ≡ m → k ≡ j
        says g f = rw (← f) at g

    module _ (h : entry_words ≤ length old) where
      -- the entries lie in the room
      pub told-few : k ≤ length es
      told-few = omega (arith, counted, (entries_fit F s).1, length-told F old s e)

      pub told-messages : (number_of (layout_of F s).layout ≡ 0) × (seen_fault (take k es) r ≡ behind_of (layout_of F s).layout (layout_of F s).entries r)
      told-messages =
          let g : take k es ≡ (layout_of F s).entries = rw counted (entries-told F old s e h) in
          rw (g, ← told q) (refl, refl)

-- ---- the tests of adding, in their order
module _ (F : Format) (room : List ℕ) (len : ℕ) (m : Message) (bytes : List ℕ) where
  pub add-room : length room < max_size → 11 ≡ add_answer F room len m bytes
  unfolding add_answer
  add-room h = simp (lt-ltb (length room) max_size h)

  module _ (big : max_size ≤ length room) where
    pub add-size : max_size < len → 1 ≡ add_answer F room len m bytes
    unfolding add_answer
    add-size h = simp (le-ltb (length room) max_size big, lt-ltb max_size len h)

    module _ (short : len ≤ max_size) where
      l : Layout
      l = (layout_of F (take len room)).layout

      so-far-length : length (take len room) ≡ len
      so-far-length = length-take-le len room (omega arith)

      tests : ℕ
      tests = pick (not (writable F (length bytes) m)) 2 (earlier (number_of (layout_of F (take len room ++ bytes_of F bytes m)).layout) (pick (has_data l) 2 0))

      tested : add_answer F room len m bytes ≡ earlier (number_of l) tests
      unfolding add_answer tests l
      tested = simp (le-ltb (length room) max_size big, le-ltb max_size len short)

      pub add-so-far : {n : ℕ} → n ≡ number_of (layout_of F (take len room)).layout → (n ≡ 0 → ⊥) → n ≡ add_answer F room len m bytes
      unfolding l
      add-so-far {n} e p = stop n p ∙ ap (λ (k : ℕ). earlier k tests) e ∙ sym tested
        where
          stop : (k : ℕ) → (k ≡ 0 → ⊥) → k ≡ earlier k tests
          stop zero q = absurd (q refl)
          stop (suc k) q = refl

      module _ (sound : number_of (layout_of F (take len room)).layout ≡ 0) {b : Bool} (be : b ≡ writable F (length bytes) m) where
        pub add-unwritable : b ≡ false → 2 ≡ add_answer F room len m bytes
        unfolding tests l
        add-unwritable p = sym (tested ∙ simp (sound, ← be, p))

        module _ (can : b ≡ true) where
          able : writable F (length bytes) m ≡ true
          able = sym be ∙ can

          pub add_low : min_size ≤ length (take len room)
          add_low = (passed F (take len room) sound).0

          left : add_answer F room len m bytes ≡ earlier (number_of (layout_of F (take len room ++ bytes_of F bytes m)).layout) (pick (has_data l) 2 0)
          unfolding tests l
          left = tested ∙ simp (sound, able)

          module _ {n : ℕ} (ne : n ≡ size_of F m) where
            pub add-long : max_size - len < n → 1 ≡ add_answer F room len m bytes
            add-long h =
                let o : max_size < length (take len room ++ bytes_of F bytes m) = omega (arith, so-far-length, length-append (take len room) (bytes_of F bytes m), bytes-length F bytes m able, ne) in
                sym (left ∙ rw (too_long F (take len room ++ bytes_of F bytes m) o))

            module _ (fits : n ≤ max_size - len) where
              pub add-fits : (d : ℕ) → own_fault F d len m ≡ 0 → Addable F (length room) len m (length bytes)
              add-fits d z = record { fits = omega (arith, ne, fits, short); room = big; can = able; good = own_good F d len m z }

              module _ (widths : HasWidths m) {x : ℕ} (xe : x ≡ behind_of (layout_of F (take len room)).layout (layout_of F (take len room)).entries (node_of m)) where
                both : add_answer F room len m bytes ≡ earlier x (own_fault F (be32 (take len room) 0) len m)
                unfolding l
                both =
                    let k = so-far-length in
                    let a = after_is F (take len room) bytes m able add_low (omega (arith, k, fits, ne)) widths l refl sound in
                    left ∙ sym a ∙ ap₂ earlier (sym xe) (ap (λ (y : ℕ). own_fault F (be32 (take len room) 0) y m) k)

                pub add-behind : (x ≡ 0 → ⊥) → x ≡ add_answer F room len m bytes
                add-behind p = stop x p ∙ sym both
                  where
                    stop : (k : ℕ) → (k ≡ 0 → ⊥) → k ≡ earlier k (own_fault F (be32 (take len room) 0) len m)
                    stop zero q = absurd (q refl)
                    stop (suc k) q = refl

                pub add-own : x ≡ 0 → own_fault F (be32 (take len room) 0) len m ≡ add_answer F room len m bytes
                add-own p = sym (both ∙ rw p)

  -- the whole call
  module _ {r : Result (Unit {0}) Refusal} (e : Answers r (add_answer F room len m bytes)) where
    pub add-refused : {x : Refusal} → r ≡ Err x → out_at (number x) 0 (node x) room ≡ add_spec F room len m bytes
    unfolding add_spec
    add-refused p = unless-refused e p room (out_of 0 (len + length (bytes_of F bytes m)) (placed room len (bytes_of F bytes m)))

    pub add_done : {x : Unit {0}} → r ≡ Ok x → {at : ℕ} {new : List ℕ} → at ≡ len + length (bytes_of F bytes m) → new ≡ placed room len (bytes_of F bytes m)
        → out_of 0 at new ≡ add_spec F room len m bytes
    unfolding add_spec
    add_done p q d = ap₂ (λ (k : ℕ) (w : List ℕ). out_of 0 k w) q d ∙ sym (unless-passed e p room (out_of 0 (len + length (bytes_of F bytes m)) (placed room len (bytes_of F bytes m))))

module _ (room : List ℕ) (to : ℕ) where
  pub begin-refused : length room < max_size → out_of 11 0 room ≡ begin_spec room to
  unfolding begin_spec
  begin-refused h = simp (lt-ltb (length room) max_size h)

  pub begin-done : max_size ≤ length room → {r : List ℕ} → r ≡ placed room 0 (bytes32 to) → out_of 0 4 r ≡ begin_spec room to
  unfolding begin_spec
  begin-done h q = simp (le-ltb (length room) max_size h) (ap (out_of 0 4) q)

-- ---- a message by itself, as the code tests it

module _ (F : Format) (to len a : ℕ) (o : Options) where
  -- a HANDSHAKE behind a message
  pub handshake-behind : (len ≡ min_size → ⊥) → 3 ≡ own_fault F to len (Handshake a o)
  handshake-behind h = rw (ne_eqb len min_size h)

  -- one behind the destination alone, which the layout refuses
  pub handshake-refused : len ≡ min_size → (handshake_fault to a o ≡ 0 → ⊥) → 3 ≡ own_fault F to len (Handshake a o)
  unfolding handshake_fault
  handshake-refused h n = rw (eq-eqb len min_size h) (by (eqb a 0) (eqb to 0) (is_end_only o) n)
    where
      by : (x y z : Bool) → (pick {A = ℕ} x (pick y 3 (pick z 0 3)) 0 ≡ 0 → ⊥) → 3 ≡ pick {A = ℕ} x (pick y 3 (pick z 0 3)) 0
      by true true z n = refl
      by true false true n = absurd (n refl)
      by true false false n = refl
      by false y z n = absurd (n refl)

-- what a result says of one that was accepted
pub on_accepted : {A : Type 0} (r : Result A Refusal) {P : Type 0} → (answer_of r ≡ 0 → P) → OnOk r P
on_accepted (Ok x) h = h refl
on_accepted (Err e) h = tt
