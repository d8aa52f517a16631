-- A message that is written reads back as itself, where it now stands; one that the table refuses is refused. Assumes
-- nothing.
use Prim.Native.Nat.{ℕ, suc, ◌+◌, ◌-◌, ◌<◌, ◌≤◌, ◌^◌}
use native.Mathlib.Omega.{arith}
use mathlib.Core.Path.{◌≡◌, refl, sym, ap, ◌∙◌}
use mathlib.Core.List.{List, [], ◌∷◌, ◌++◌, append_assoc, append-nil}
use mathlib.Core.Bool.{Bool, true, false, not, true≢false}
use lib.Dec.{ltb, eqb}
use lib.ListN.{length, get_or, length-append}
use lib.Seq.{drop_at}
use Rattle.tree.proofs.Promise.{covers}
use Rattle.wire.specs.Bytes.{begins, be64}
use Rattle.wire.specs.Place.{first_of, last_of, integrity_size, is_empty, named_size, timed_size}
use Rattle.wire.specs.Options.{head_size, body_size, options_from, options_size, fixed_head, fixed_tail, is_fixed, fixed_size, root_place}
use Rattle.wire.specs.Read.{cursor, kind_of, step_of, is_ranged, names_node, typed}
use Rattle.wire.specs.declared.message.Options.{Options}
use Rattle.wire.specs.declared.message.Options.TheVariants.{Fixed, EndOnly, Other}
use Rattle.wire.specs.declared.message.Message.{Message}
use Rattle.wire.specs.declared.message.Message.TheVariants.{Handshake, Data, Ack, Have, Integrity, Request, Cancel, Choke, Unchoke, Empty}
use Rattle.wire.specs.declared.message.Step.TheVariants.{Read, Refused}
use Rattle.wire.proofs.ViewLaws.{refusing, handshake-is, data_is, ack-is, have-is, integrity-is, request-is, cancel-is, choke-is, unchoke-is, empty-is, typed-is}
use Rattle.wire.proofs.BehindLaws.{Valued, option-size-is, options_on_lem, options_end}
use Rattle.writer.specs.Bytes.{bytes32, bytes64, name_bytes, empty_bytes, emptyable, is_everything, nameable}
use Rattle.writer.specs.Message.{within, option_bytes, bytes_of, writable, writable_options}
use Rattle.writer.specs.Steps.{option_span, size_of, allowed, named_so, part_so}
use Rattle.writer.specs.Lists.{HasWidths}
use Rattle.writer.proofs.PlaceLaws.{size64, size_name, size_empty}
use Rattle.writer.proofs.SourceLaws.{within-length}
use Rattle.writer.proofs.SizeLaws.{lies_in}
use Rattle.writer.proofs.NumberLaws.{source_is, be64-behind, time_is}
use Rattle.format.specs.declared.Format.{Format}
use Rattle.wire.specs.declared.message.Step.{Step}
use Rattle.base.proofs.PickLaws.{both_true}
use Rattle.format.specs.Format.{method_of}
use Rattle.writer.proofs.NameLaws.{name-first, name-last, name-refused, name-some, name-special, name-type, none_empty}
use Rattle.base.specs.Pick.{pick}
use borrow.Author.Tests.{eq-eqb}

-- ---- where a message's bytes then stand

-- A message whose hash, chunk or root stands in the datagram where its own bytes begin at `at`.
abbrev pub moved_options : ℕ → Options → Options
moved_options at (Fixed root) = Fixed (at + root_place)
moved_options at EndOnly = EndOnly
moved_options at Other = Other

abbrev pub moved : Format → ℕ → Message → Message
moved F at (Handshake a o) = Handshake a (moved_options (at + 5) o)
moved F at (Data f l x b n) = Data f l x (at + timed_size F) n
moved F at (Ack f l d) = Ack f l d
moved F at (Have f l) = Have f l
moved F at (Integrity f l h) = Integrity f l (at + named_size F)
moved F at (Request f l) = Request f l
moved F at (Cancel f l) = Cancel f l
moved F at Choke = Choke
moved F at Unchoke = Unchoke
moved F at (Empty k) = Empty k

-- ---- messages that name chunks

-- what names them has their size
long : (F : Format) (k f l : ℕ) (q : List ℕ) → length (name_bytes F k f l ++ q) ≡ named_size F + length q
long F k f l q = length-append (name_bytes F k f l) q ∙ ap (λ (n : ℕ). n + length q) (size_name F k f l)

-- the type of what no bin names is refused
refused-back : (F : Format) (at k f l : ℕ) (q : List ℕ) → nameable F f l ≡ false → step_of F at (name_bytes F k f l ++ q) ≡ Refused
unfolding typed
refused-back F at k f l q e = typed-is F at (name_bytes F k f l ++ q) 255 (omega (arith, long F k f l q)) (name-refused F k f l q e)

not_not : (b : Bool) → b ≡ not (not b)
not_not true = refl
not_not false = refl

-- tests of a message that may not name everything, as reading and as adding have them
same_tests : (x y z : Bool) → x ≡ not z → pick y true x ≡ not (pick y false z)
same_tests x true z e = refl
same_tests x false z e = e

module _ (F : Format) (at f l : ℕ) (hf : f < 2 ^ 32) (hl : l < 2 ^ 32) where
  -- one that cannot be named is refused, whatever it says besides
  by_name : (k : ℕ) (q : List ℕ) (t : Bool) (st : Step) → (nameable F f l ≡ true → step_of F at (name_bytes F k f l ++ q) ≡ refusing (not t) st)
      → step_of F at (name_bytes F k f l ++ q) ≡ refusing (not (named_so F f l t)) st
  by_name k q t st h = go (nameable F f l) refl
    where
      go : (b : Bool) → nameable F f l ≡ b → step_of F at (name_bytes F k f l ++ q) ≡ refusing (not (pick b t false)) st
      go true e = h e
      go false e = refused-back F at k f l q e

  -- chunks alone
  range_back : (k : ℕ) (M : ℕ → ℕ → Message)
      → ((t : List ℕ) → get_or t 0 0 ≡ k → named_size F ≤ length t → is_empty F t ≡ false
      → step_of F at t ≡ refusing (ltb (last_of F t) (first_of F t)) (Read (M (first_of F t) (last_of F t)) (cursor (at + named_size F))))
      → (r : List ℕ) → step_of F at (name_bytes F k f l ++ r) ≡ refusing (not (named_so F f l (not (ltb l f)))) (Read (M f l) (cursor (at + named_size F)))
  range_back k M is r =
      by_name k r (not (ltb l f)) (Read (M f l) (cursor (at + named_size F)))
      (λ e. is (name_bytes F k f l ++ r) (name-type F k f l r e) (omega (arith, long F k f l r)) (name-some F k f l r e hf hl)
      ∙ rw (name-first F k f l r e hf hl, name-last F k f l r e hf hl) (ap (λ (b : Bool). refusing b (Read (M f l) (cursor (at + named_size F)))) (not_not (ltb l f))))

  -- the number behind chunks
  time-back : (k x : ℕ) (q : List ℕ) → x < 2 ^ 64 → be64 (name_bytes F k f l ++ (bytes64 x ++ q)) (named_size F) ≡ x
  time-back k x q h = be64-behind (name_bytes F k f l) (bytes64 x ++ q) 0 (named_size F) (omega (arith, size_name F k f l)) ∙ time_is x q h

  ack-back : (d : ℕ) (r : List ℕ) → d < 2 ^ 64
      → step_of F at ((name_bytes F 2 f l ++ bytes64 d) ++ r) ≡ refusing (not (part_so F f l (not (ltb l f)))) (Read (Ack f l d) (cursor (at + timed_size F)))
  ack-back d r hd =
      let q = bytes64 d ++ r in
      rw (append_assoc (name_bytes F 2 f l) (bytes64 d) r)
      (by_name 2 q (pick (is_everything F f l) false (not (ltb l f))) (Read (Ack f l d) (cursor (at + timed_size F)))
      (λ e. ack-is F at (name_bytes F 2 f l ++ q) (name-type F 2 f l q e) (omega (arith, long F 2 f l q, length-append (bytes64 d) r, size64 d))
      ∙ rw (name-special F 2 f l q e hf hl, name-first F 2 f l q e hf hl, name-last F 2 f l q e hf hl, time-back 2 d r hd)
      (ap (λ (b : Bool). refusing b (Read (Ack f l d) (cursor (at + timed_size F)))) (same_tests (ltb l f) (is_everything F f l) (not (ltb l f)) (not_not (ltb l f))))))

  integrity-back : (w r : List ℕ) → length w ≡ 32
      → step_of F at ((name_bytes F 4 f l ++ w) ++ r)
      ≡ refusing (not (part_so F f l (covers (f + l) f l))) (Read (Integrity f l (at + named_size F)) (cursor (at + integrity_size F)))
  unfolding names_node
  integrity-back w r hw =
      let q = w ++ r in
      rw (append_assoc (name_bytes F 4 f l) w r)
      (by_name 4 q (pick (is_everything F f l) false (covers (f + l) f l)) (Read (Integrity f l (at + named_size F)) (cursor (at + integrity_size F)))
      (λ e. integrity-is F at (name_bytes F 4 f l ++ q) (name-type F 4 f l q e) (omega (arith, long F 4 f l q, length-append w r))
      ∙ rw (name-special F 4 f l q e hf hl, name-first F 4 f l q e hf hl, name-last F 4 f l q e hf hl)))

  -- DATA reaches to the end
  data-back : (x : ℕ) (w : List ℕ) → x < 2 ^ 64
      → step_of F at (name_bytes F 1 f l ++ (bytes64 x ++ w))
      ≡ refusing (not (part_so F f l (eqb f l))) (Read (Data f l x (at + timed_size F) (length w)) (cursor (at + (timed_size F + length w))))
  data-back x w hx =
      let q = bytes64 x ++ w in
      let t = name_bytes F 1 f l ++ q in
      let z : length t ≡ timed_size F + length w = omega (arith, long F 1 f l q, length-append (bytes64 x) w, size64 x) in
      let d : length t - timed_size F ≡ length w = omega arith in
      by_name 1 q (pick (is_everything F f l) false (eqb f l)) (Read (Data f l x (at + timed_size F) (length w)) (cursor (at + (timed_size F + length w))))
      (λ e. data_is F at t (name-type F 1 f l q e) (omega arith)
      ∙ rw (name-special F 1 f l q e hf hl, name-first F 1 f l q e hf hl, name-last F 1 f l q e hf hl, time-back 1 x w hx, d, z)
      (ap (λ (b : Bool). refusing b (Read (Data f l x (at + timed_size F) (length w)) (cursor (at + (timed_size F + length w))))) (same_tests (not (eqb f l)) (is_everything F f l) (eqb f l) refl)))

-- ---- HANDSHAKE

-- an option with one byte of value
byte : (n least k v : ℕ) (r : List ℕ) (at : ℕ) → least ≤ k → k ≤ 9 → head_size k ≡ 2 → body_size (k ∷ v ∷ r) ≡ 0 → options_from (suc n) least (k ∷ v ∷ r) at ≡ options_from n (k + 1) r (at + 2)
byte n least k v r at rising small he be =
    let w : Valued least (k ∷ v ∷ r) = record { other = λ e. omega arith; rising = rising; known = small; whole = omega (arith, he, be) } in
    options_on_lem n least (k ∷ v ∷ r) at 0 (option-size-is least (k ∷ v ∷ r) w ∙ omega (arith, he, be))

-- the fixed options around a root, with anything behind them
pub fixed_size_is : (F : Format) (root r : List ℕ) → length root ≡ 32 → options_size (fixed_head ++ (root ++ (fixed_tail F ++ r))) ≡ fixed_size
unfolding options_size head_size body_size
fixed_size_is F root r h =
    let x : List ℕ = (fixed_tail F) ++ r in
    let t : List ℕ = 2 ∷ 0 ∷ 32 ∷ (root ++ x) in
    let u : List ℕ = 9 ∷ 0 ∷ 0 ∷ 4 ∷ 0 ∷ 255 ∷ r in
    let l : length (root ++ x) ≡ 32 + length x = length-append root x ∙ ap (λ (k : ℕ). k + length x) h in
    let id : Valued 2 t = record { other = λ e. omega arith; rising = omega arith; known = omega arith; whole = omega (arith, l) } in
    let size : Valued 7 u = record { other = λ e. omega arith; rising = omega arith; known = omega arith; whole = omega arith } in
    byte 10 0 0 1 (1 ∷ 1 ∷ t) 0 (omega arith) (omega arith) refl refl
    ∙ byte 9 1 1 1 t 2 (omega arith) (omega arith) refl refl
    ∙ options_on_lem 8 2 t 4 33 (option-size-is 2 t id)
    ∙ ap (λ (v : List ℕ). options_from 8 3 v 39) (drop_at root x 32 h)
    ∙ byte 7 3 3 1 (4 ∷ 2 ∷ 6 ∷ method_of F ∷ u) 39 (omega arith) (omega arith) refl refl
    ∙ byte 6 4 4 2 (6 ∷ method_of F ∷ u) 41 (omega arith) (omega arith) refl refl
    ∙ byte 5 5 6 (method_of F) u 43 (omega arith) (omega arith) refl refl
    ∙ options_on_lem 4 7 u 45 3 (option-size-is 7 u size)
    ∙ options_end 3 10 (255 ∷ r) 50 (omega arith) refl

fixed_is : (F : Format) (root r : List ℕ) → length root ≡ 32 → is_fixed F (fixed_head ++ (root ++ (fixed_tail F ++ r))) ≡ true
unfolding is_fixed begins
fixed_is F root r h = rw (drop_at root (fixed_tail F ++ r) 32 h, eq-eqb (method_of F) (method_of F) refl)

end_size : (r : List ℕ) → options_size (255 ∷ r) ≡ 1
unfolding options_size
end_size r = options_end 10 0 (255 ∷ r) 0 (omega arith) refl

-- a HANDSHAKE whose options q have size n and are of kind x
handshake-back : (F : Format) (at a n : ℕ) (q : List ℕ) (x : Options) → a < 2 ^ 32 → (n ≡ 0 → ⊥) → options_size q ≡ n → kind_of F (at + 5) q ≡ x
    → step_of F at (0 ∷ bytes32 a ++ q) ≡ Read (Handshake a x) (cursor (at + (5 + n)))
unfolding bytes32
handshake-back F at a n q x ha hn e k =
    let t : List ℕ = 0 ∷ bytes32 a ++ q in
    let i : at + 5 + n ≡ at + (5 + n) = omega arith in
    handshake-is F at t refl (omega arith) (λ z. hn (sym e ∙ z)) ∙ rw (source_is 0 a q ha, e, k, i)

module _ (F : Format) (s : List ℕ) (at a : ℕ) (ha : a < 2 ^ 32) where
  options-back : (o : Options) → writable_options (length s) o ≡ true → (r : List ℕ)
      → step_of F at ((0 ∷ bytes32 a ++ option_bytes F s o) ++ r) ≡ Read (Handshake a (moved_options (at + 5) o)) (cursor (at + (5 + option_span o)))
  unfolding option_bytes writable_options option_span kind_of
  options-back (Fixed b) w r =
      let v = within s b 32 in
      let h : length v ≡ 32 = within-length s b 32 (lies_in (length s) b 32 w) in
      let q : List ℕ = fixed_head ++ (v ++ (fixed_tail F ++ r)) in
      rw (append_assoc (0 ∷ bytes32 a) (fixed_head ++ (v ++ fixed_tail F)) r)
      (rw (append_assoc fixed_head (v ++ fixed_tail F) r) (rw (append_assoc v (fixed_tail F) r)
      (handshake-back F at a fixed_size q (Fixed (at + 5 + root_place)) ha (λ e. omega arith) (fixed_size_is F v r h) (rw (fixed_size_is F v r h, fixed_is F v r h)))))
  options-back EndOnly w r =
      rw (append_assoc (0 ∷ bytes32 a) (255 ∷ []) r)
      (handshake-back F at a 1 (255 ∷ r) EndOnly ha (λ e. omega arith) (end_size r) (rw (end_size r)))
  options-back Other w r = absurd (true≢false (sym w))

-- ---- no chunk

empty_type : (k : ℕ) (r : List ℕ) → get_or (empty_bytes k ++ r) 0 0 ≡ k
unfolding empty_bytes
empty_type k r = refl

empty_back : (F : Format) (at k : ℕ) → pick (is_ranged k) (emptyable F.addressing) false ≡ true → (r : List ℕ) → step_of F at (empty_bytes k ++ r) ≡ Read (Empty k) (cursor (at + named_size F))
empty_back F at k w r =
    let b = both_true (is_ranged k) (emptyable F.addressing) w in
    empty-is F at (empty_bytes k ++ r) k b.0 (empty_type k r) (omega (arith, length-append (empty_bytes k) r, size_empty F k b.1)) (none_empty F k r b.1)

-- ---- any message

-- Nothing may stand behind DATA.
abbrev pub Behind : Message → List ℕ → Type 0
Behind (Handshake a o) r = Unit {0}
Behind (Data f l x b n) r = r ≡ []
Behind (Ack f l d) r = Unit {0}
Behind (Have f l) r = Unit {0}
Behind (Integrity f l h) r = Unit {0}
Behind (Request f l) r = Unit {0}
Behind (Cancel f l) r = Unit {0}
Behind Choke r = Unit {0}
Behind Unchoke r = Unit {0}
Behind (Empty k) r = Unit {0}

pub message-back : (F : Format) (s : List ℕ) (at : ℕ) (m : Message) → HasWidths m → writable F (length s) m ≡ true → (r : List ℕ) → Behind m r
    → step_of F at (bytes_of F s m ++ r) ≡ refusing (not (allowed F m)) (Read (moved F at m) (cursor (at + size_of F m)))
unfolding bytes_of size_of writable
message-back F s at (Handshake a o) h w r n = options-back F s at a h o w r
message-back F s at (Data f l x b k) h w r n =
    let e = within-length s b k (lies_in (length s) b k w) in
    rw (n, append-nil) (data-back F at f l h.0 h.1 x (within s b k) h.2 ∙ rw e)
message-back F s at (Ack f l d) h w r n = ack-back F at f l h.0 h.1 d r h.2
message-back F s at (Have f l) h w r n = range_back F at f l h.0 h.1 3 Have (have-is F at) r
message-back F s at (Integrity f l b) h w r n = integrity-back F at f l h.0 h.1 (within s b 32) r (within-length s b 32 (lies_in (length s) b 32 w))
message-back F s at (Request f l) h w r n = range_back F at f l h.0 h.1 8 Request (request-is F at) r
message-back F s at (Cancel f l) h w r n = range_back F at f l h.0 h.1 9 Cancel (cancel-is F at) r
message-back F s at Choke h w r n = choke-is F at (10 ∷ r) refl (omega arith)
message-back F s at Unchoke h w r n = unchoke-is F at (11 ∷ r) refl (omega arith)
message-back F s at (Empty k) h w r n = empty_back F at k w r
