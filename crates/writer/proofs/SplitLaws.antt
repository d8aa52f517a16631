-- A message that was read stands in the datagram as it would be written. Assumes nothing.
use Prim.Native.Nat.{ℕ, ◌+◌, ◌-◌, ◌<◌, ◌≤◌, ◌^◌}
use native.Mathlib.Omega.{arith}
use mathlib.Core.Path.{◌≡◌, refl, sym, ap, ◌∙◌}
use mathlib.Core.List.{List, [], ◌∷◌, ◌++◌, append_assoc}
use mathlib.Core.Bool.{Bool, true, false, not, true≢false}
use lib.Dec.{ltb, eqb}
use borrow.Author.Tests.{le-ltb, le-leb, eq-eqb, eqb-true}
use lib.ListN.{length, get_or, take, drop, take-append-drop, length-append, length-drop}
use lib.Seq.{drop-cons, drop-drop, length-take-le}
use Rattle.base.specs.Pick.{pick}
use Rattle.tree.proofs.Promise.{covers}
use Rattle.base.proofs.PickLaws.{both_true}
use Rattle.wire.specs.Bytes.{be32, be64, begins}
use Rattle.wire.specs.Place.{first_of, last_of, integrity_size, is_empty, is_special, named_size, timed_size}
use Rattle.wire.specs.Options.{code, options_size, fixed_head, fixed_tail, is_fixed, fixed_size, root_place, tail_place}
use Rattle.wire.specs.Read.{cursor, kind_of, is_ranged, names_node}
use Rattle.wire.specs.declared.message.Options.{Options}
use Rattle.wire.specs.declared.message.Options.TheVariants.{Fixed, EndOnly, Other}
use Rattle.wire.specs.declared.message.Message.{Message}
use Rattle.wire.specs.declared.message.Message.TheVariants.{Handshake, Data, Ack, Have, Integrity, Request, Cancel, Choke, Unchoke, Empty}
use Rattle.wire.specs.declared.message.Step.{Step}
use Rattle.wire.specs.declared.message.Step.TheVariants.{Read, End, Refused}
use Rattle.wire.proofs.PlaceLaws.{not_none}
use Rattle.wire.proofs.ViewLaws.{View, the_end, refused, a_handshake, a_data, an_ack, a_have, an_integrity, a_request, a_cancel, a_choke, an_unchoke, an_empty}
use Rattle.wire.proofs.BehindLaws.{only_end}
use Rattle.writer.specs.Bytes.{bytes32, bytes64, name_bytes}
use Rattle.writer.specs.Message.{within, option_bytes, bytes_of, writable, writable_options, in_bounds}
use Rattle.writer.specs.Steps.{option_span, size_of, named_so, part_so, allowed}
use Rattle.writer.specs.Lists.{HasWidths, AreBytes}
use Rattle.writer.proofs.NumberLaws.{be32-fits, be64-fits, peel, split-word, split-long}
use Rattle.writer.proofs.BackLaws.{moved_options, moved, fixed_size_is}
use Rattle.format.specs.declared.Format.{Format}
use Rattle.writer.proofs.NameLaws.{none-name, none-says, split-everything, split-name, split-named, split-widths}

-- ---- lists that begin so
pub begun : (p s : List ℕ) → begins p s ≡ true → p ++ drop (length p) s ≡ s
unfolding begins
begun [] s e = refl
begun (x ∷ p) [] e = absurd (true≢false (sym e))
begun (x ∷ p) (y ∷ s) e = by (begun p s) (eqb x y) refl e
  where
    by : (begins p s ≡ true → p ++ drop (length p) s ≡ s) → (b : Bool) → eqb x y ≡ b → pick b (begins p s) false ≡ true → x ∷ (p ++ drop (length p) s) ≡ y ∷ s
    by ih true q f = ap (λ (z : ℕ). z ∷ (p ++ drop (length p) s)) (eqb-true x y q) ∙ ap (λ (r : List ℕ). y ∷ r) (ih f)
    by ih false q f = absurd (true≢false (sym f))

-- ---- what a message that was read from `at` to `next` of s says of s
pub record Split (F : Format) (s : List ℕ) (at : ℕ) (m : Message) (next : ℕ) : Type 0 where
  pub bytes : bytes_of F s m ++ drop next s ≡ drop at s
  pub size : next ≡ at + size_of F m
  pub can : writable F (length s) m ≡ true
  pub fits : HasWidths m
  pub good : allowed F m ≡ true
  pub here : moved F at m ≡ m
  pub inside : next ≤ length s

-- A step that can be written again: a message whose options, if it has any, are not others.
abbrev pub Known : Step → Type 0
Known End = ⊥
Known Refused = ⊥
Known (Read (Handshake a (Fixed r)) next) = Unit {0}
Known (Read (Handshake a EndOnly) next) = Unit {0}
Known (Read (Handshake a Other) next) = ⊥
Known (Read (Data c d e f g) x) = Unit {0}
Known (Read (Ack c d e) x) = Unit {0}
Known (Read (Have c d) x) = Unit {0}
Known (Read (Integrity c d e) x) = Unit {0}
Known (Read (Request c d) x) = Unit {0}
Known (Read (Cancel c d) x) = Unit {0}
Known (Read Choke x) = Unit {0}
Known (Read Unchoke x) = Unit {0}
Known (Read (Empty k) x) = Unit {0}

abbrev pub SplitStep : (F : Format) → List ℕ → ℕ → Step → Type 0
SplitStep F s at End = Unit {0}
SplitStep F s at Refused = Unit {0}
SplitStep F s at (Read m next) = Split F s at m next.at

pub lies_is : (size at n : ℕ) → at + n ≤ size → in_bounds size at n ≡ true
lies_is size at n h = rw (le-leb n size (omega arith), le-leb at (size - n) (omega arith))

-- ---- the fixed options around a root, in bytes u that begin with them
module _ (F : Format) (u : List ℕ) (fixed : is_fixed F u ≡ true) where
  both : (begins fixed_head u ≡ true) × (begins (fixed_tail F) (drop tail_place u) ≡ true)
  unfolding is_fixed
  both = both_true (begins fixed_head u) (begins (fixed_tail F) (drop tail_place u)) fixed

  tail : (fixed_tail F) ++ drop fixed_size u ≡ drop tail_place u
  tail = rw (← drop-drop 12 tail_place u) (begun (fixed_tail F) (drop tail_place u) both.1)

  pub fixed-length : fixed_size ≤ length u
  fixed-length = omega (arith, ap length tail, length-append (fixed_tail F) (drop fixed_size u), length-drop tail_place u)

  pub fixed-split : fixed_head ++ (take 32 (drop root_place u) ++ (fixed_tail F ++ drop fixed_size u)) ≡ u
  fixed-split =
      rw tail (ap (λ (r : List ℕ). fixed_head ++ r) (rw (← drop-drop 32 root_place u) (take-append-drop 32 (drop root_place u))) ∙ begun fixed_head u both.0)

  pub fixed-size : options_size u ≡ fixed_size
  fixed-size =
      ap options_size (sym fixed-split)
      ∙ fixed_size_is F (take 32 (drop root_place u)) (drop fixed_size u) (length-take-le 32 (drop root_place u) (omega (arith, fixed-length, length-drop root_place u)))

module _ (F : Format) (s : List ℕ) (at : ℕ) (small : AreBytes (drop at s)) (inside : at ≤ length s) where
  len : length (drop at s) ≡ length s - at
  len = length-drop at s

  further : (n : ℕ) → drop n (drop at s) ≡ drop (at + n) s
  further n = drop-drop n at s

  -- a type alone
  single : (k : ℕ) → get_or (drop at s) 0 0 ≡ k → 1 ≤ length (drop at s) → k ∷ drop (at + 1) s ≡ drop at s
  single k e l = rw (← further 1, ← e) (peel (drop at s) small 0 l)

  -- a type and chunks
  module _ (o : is_empty F (drop at s) ≡ false) (k : ℕ) (e : get_or (drop at s) 0 0 ≡ k) where
    ranged : named_size F ≤ length (drop at s) → name_bytes F k (first_of F (drop at s)) (last_of F (drop at s)) ++ drop (at + named_size F) s ≡ drop at s
    ranged l = rw (← further (named_size F)) (split-name F (drop at s) small l o k e)

    -- and bytes w behind them that reach to `at + n`
    behind-range : (n : ℕ) (w : List ℕ) → named_size F ≤ length (drop at s) → w ++ drop n (drop at s) ≡ drop (named_size F) (drop at s)
        → (name_bytes F k (first_of F (drop at s)) (last_of F (drop at s)) ++ w) ++ drop (at + n) s ≡ drop at s
    behind-range n w l h =
        append_assoc (name_bytes F k (first_of F (drop at s)) (last_of F (drop at s))) w (drop (at + n) s)
        ∙ ap (λ (r : List ℕ). name_bytes F k (first_of F (drop at s)) (last_of F (drop at s)) ++ r) (rw (← further n) h)
        ∙ split-name F (drop at s) small l o k e

  -- the table allows it: chunks, and chunks other than all
  module _ (l : named_size F ≤ length (drop at s)) where
    some-allowed : is_empty F (drop at s) ≡ false → (x : Bool) → x ≡ true → named_so F (first_of F (drop at s)) (last_of F (drop at s)) x ≡ true
    some-allowed o x e = rw (split-named F (drop at s) small l o) e

    part-allowed : is_special F (drop at s) ≡ false → (x : Bool) → x ≡ true → part_so F (first_of F (drop at s)) (last_of F (drop at s)) x ≡ true
    part-allowed o x e =
        let z = not_none F (drop at s) o in
        rw (split-named F (drop at s) small l z, split-everything F (drop at s) small l z, o) e

  ordered : first_of F (drop at s) ≤ last_of F (drop at s) → not (ltb (last_of F (drop at s)) (first_of F (drop at s))) ≡ true
  ordered o = rw (le-ltb (last_of F (drop at s)) (first_of F (drop at s)) o)

  -- n bytes from `at + i` on
  part : (i n : ℕ) → within s (at + i) n ++ drop (i + n) (drop at s) ≡ drop i (drop at s)
  part i n = rw (← further i) (rw (← drop-drop n i (drop at s)) (take-append-drop n (drop i (drop at s))))

  ack : get_or (drop at s) 0 0 ≡ 2 → timed_size F ≤ length (drop at s) → (is_special F (drop at s) ≡ false) × (first_of F (drop at s) ≤ last_of F (drop at s))
      → Split F s at (Ack (first_of F (drop at s)) (last_of F (drop at s)) (be64 (drop at s) (named_size F))) (at + timed_size F)
  unfolding bytes_of size_of writable
  ack e l o =
      let u = drop at s in
      let h : named_size F ≤ length u = omega arith in
      let z = not_none F u o.0 in
      let w = split-widths F u small h z in
      record {
        bytes = behind-range z 2 e (timed_size F) (bytes64 (be64 u (named_size F))) h (split-long u small (named_size F) l);
        size = refl;
        can = refl;
        fits = (w.0, w.1, be64-fits u small (named_size F));
        good = part-allowed h o.0 _ (ordered o.1);
        here = refl;
        inside = omega (arith, len);
      }

  -- a node's chunks are not all
  node-part : names_node F (drop at s) ≡ true → (is_special F (drop at s) ≡ false) × (covers (first_of F (drop at s) + last_of F (drop at s)) (first_of F (drop at s)) (last_of F (drop at s)) ≡ true)
  unfolding names_node
  node-part = by (is_special F (drop at s))
    where
      by : (x : Bool) {y : Bool} → pick x false y ≡ true → (x ≡ false) × (y ≡ true)
      by true e = absurd (true≢false (sym e))
      by false e = (refl, e)

  integrity : get_or (drop at s) 0 0 ≡ 4 → integrity_size F ≤ length (drop at s) → names_node F (drop at s) ≡ true
      → Split F s at (Integrity (first_of F (drop at s)) (last_of F (drop at s)) (at + named_size F)) (at + integrity_size F)
  unfolding bytes_of size_of writable
  integrity e l o =
      let u = drop at s in
      let h : named_size F ≤ length u = omega arith in
      let p = node-part o in
      let z = not_none F u p.0 in
      record {
        bytes = behind-range z 4 e (integrity_size F) (within s (at + named_size F) 32) h (part (named_size F) 32);
        size = refl;
        can = lies_is (length s) (at + named_size F) 32 (omega (arith, len));
        fits = split-widths F u small h z;
        good = part-allowed h p.0 _ p.1;
        here = refl;
        inside = omega (arith, len);
      }

  whole-data : get_or (drop at s) 0 0 ≡ 1 → timed_size F ≤ length (drop at s) → (is_special F (drop at s) ≡ false) × (first_of F (drop at s) ≡ last_of F (drop at s))
      → Split F s at (Data (first_of F (drop at s)) (last_of F (drop at s)) (be64 (drop at s) (named_size F)) (at + timed_size F) (length (drop at s) - timed_size F)) (at + length (drop at s))
  unfolding bytes_of size_of writable
  whole-data e l o =
      let u = drop at s in
      let h : named_size F ≤ length u = omega arith in
      let z = not_none F u o.0 in
      let v = split-widths F u small h z in
      let w = within s (at + timed_size F) (length u - timed_size F) in
      let j : timed_size F + (length u - timed_size F) ≡ length u = omega arith in
      let x = bytes64 (be64 u (named_size F)) in
      record {
        bytes = behind-range z 1 e (length u) (x ++ w) h
            (append_assoc x w (drop (length u) u) ∙ ap (λ (r : List ℕ). x ++ r) (rw j at (part (timed_size F) (length u - timed_size F))) ∙ split-long u small (named_size F) l);
        size = omega arith;
        can = lies_is (length s) (at + timed_size F) (length u - timed_size F) (omega (arith, len));
        fits = (v.0, v.1, be64-fits u small (named_size F));
        good = part-allowed h o.0 _ (eq-eqb (first_of F u) (last_of F u) o.1);
        here = refl;
        inside = omega (arith, len);
      }

  -- HAVE, REQUEST and CANCEL
  module _ (k : ℕ) (e : get_or (drop at s) 0 0 ≡ k) (l : named_size F ≤ length (drop at s)) where
    module _ (o : (is_empty F (drop at s) ≡ false) × (first_of F (drop at s) ≤ last_of F (drop at s))) where
      named-bytes : name_bytes F k (first_of F (drop at s)) (last_of F (drop at s)) ++ drop (at + named_size F) s ≡ drop at s
      named-bytes = ranged o.0 k e l

      named-good : named_so F (first_of F (drop at s)) (last_of F (drop at s)) (not (ltb (last_of F (drop at s)) (first_of F (drop at s)))) ≡ true
      named-good = some-allowed l o.0 _ (ordered o.1)

      named-fits : (first_of F (drop at s) < 2 ^ 32) × (last_of F (drop at s) < 2 ^ 32)
      named-fits = split-widths F (drop at s) small l o.0

    -- over no chunk
    none : is_ranged k ≡ true → is_empty F (drop at s) ≡ true → Split F s at (Empty k) (at + named_size F)
    unfolding bytes_of size_of writable
    none h o =
        record {
          bytes = rw (← further (named_size F)) (none-name F (drop at s) small l o k e);
          size = refl;
          can = rw h (none-says F (drop at s) small l o);
          fits = tt;
          good = refl;
          here = refl;
          inside = omega (arith, len);
        }

  -- a HANDSHAKE whose options o are the bytes w
  handshake : (o : Options) (w : List ℕ) (n : ℕ) → get_or (drop at s) 0 0 ≡ 0 → 5 ≤ length (drop at s) → option_bytes F s o ≡ w → option_span o ≡ n → writable_options (length s) o ≡ true → moved_options (at + 5) o ≡ o
      → 5 + n ≤ length (drop at s) → w ++ drop (5 + n) (drop at s) ≡ drop 5 (drop at s) → Split F s at (Handshake (be32 (drop at s) 1) o) (at + (5 + n))
  unfolding bytes_of size_of writable
  handshake o w n e l b k c d f h =
      let u = drop at s in
      let x = bytes32 (be32 u 1) in
      record {
        bytes = rw b (ap (λ (r : List ℕ). 0 ∷ r) (append_assoc x w (drop (at + (5 + n)) s) ∙ ap (λ (r : List ℕ). x ++ r) (rw (← further (5 + n)) h) ∙ split-word u small 1 (omega arith))
            ∙ rw (← e) (peel u small 0 (omega arith)));
        size = rw k;
        can = c;
        fits = be32-fits u small 1;
        good = refl;
        here = ap (Handshake (be32 u 1)) d;
        inside = omega (arith, len);
      }

  -- by the kind of the options
  handshake-split : (x y : Bool) → eqb (options_size (drop 5 (drop at s))) 1 ≡ x → is_fixed F (drop 5 (drop at s)) ≡ y → get_or (drop at s) 0 0 ≡ 0 → 5 ≤ length (drop at s)
      → (next : ℕ) → next ≡ at + 5 + options_size (drop 5 (drop at s))
      → Known (Read (Handshake (be32 (drop at s) 1) (pick x EndOnly (pick y (Fixed (at + 5 + root_place)) Other))) (cursor next))
      → Split F s at (Handshake (be32 (drop at s) 1) (pick x EndOnly (pick y (Fixed (at + 5 + root_place)) Other))) next
  unfolding option_bytes option_span writable_options
  handshake-split true y p q e l next n k =
      let t = drop at s in let u = drop 5 t in
      let z = eqb-true (options_size u) 1 p in
      let o = only_end u z in
      let m : next ≡ at + (5 + 1) = omega (arith, n, z) in
      let f : 5 + 1 ≤ length t = omega (arith, o.0, length-drop 5 t) in
      rw m (handshake EndOnly (255 ∷ []) 1 e l refl refl refl refl f
      (rw (← o.1) (ap (λ (r : List ℕ). code u ∷ r) (sym (drop-drop 1 5 t)) ∙ sym (drop-cons u 0 0 o.0))))
  handshake-split false true p q e l next n k =
      let t = drop at s in let u = drop 5 t in
      let z = fixed-size F u q in
      let g = fixed-length F u q in
      let m : next ≡ at + (5 + fixed_size) = omega (arith, n, z) in
      let f : 5 + fixed_size ≤ length t = omega (arith, g, length-drop 5 t) in
      let i : at + 5 + root_place ≡ at + (5 + root_place) = omega arith in
      let r : within s (at + 5 + root_place) 32 ≡ take 32 (drop root_place u) = rw i (ap (take 32) (sym (further 12) ∙ sym (drop-drop root_place 5 t))) in
      let w = fixed_head ++ (take 32 (drop root_place u) ++ fixed_tail F) in
      rw m (handshake (Fixed (at + 5 + root_place)) w fixed_size e l (rw r) refl (lies_is (length s) (at + 5 + root_place) 32 (omega (arith, f, len))) refl f
      (append_assoc fixed_head (take 32 (drop root_place u) ++ fixed_tail F) (drop (5 + fixed_size) t)
      ∙ ap (λ (v : List ℕ). fixed_head ++ v) (append_assoc (take 32 (drop root_place u)) (fixed_tail F) (drop (5 + fixed_size) t) ∙ ap (λ (v : List ℕ). take 32 (drop root_place u) ++ (fixed_tail F ++ v)) (sym (drop-drop fixed_size 5 t)))
      ∙ fixed-split F u q))
  handshake-split false false p q e l next n k = absurd k

  pub split : (st : Step) → View F at (drop at s) st → Known st → SplitStep F s at st
  unfolding bytes_of size_of writable kind_of
  split End (the_end h) k = tt
  split Refused refused k = tt
  split _ (a_handshake e l o) k = handshake-split (eqb (options_size (drop 5 (drop at s))) 1) (is_fixed F (drop 5 (drop at s))) refl refl e l (at + 5 + options_size (drop 5 (drop at s))) refl k
  split _ (a_data e l o) k = whole-data e l o
  split _ (an_ack e l o) k = ack e l o
  split _ (a_have e l o) k = record { bytes = named-bytes 3 e l o; size = refl; can = refl; fits = named-fits 3 e l o; good = named-good 3 e l o; here = refl; inside = omega (arith, len) }
  split _ (an_integrity e l o) k = integrity e l o
  split _ (a_request e l o) k = record { bytes = named-bytes 8 e l o; size = refl; can = refl; fits = named-fits 8 e l o; good = named-good 8 e l o; here = refl; inside = omega (arith, len) }
  split _ (a_cancel e l o) k = record { bytes = named-bytes 9 e l o; size = refl; can = refl; fits = named-fits 9 e l o; good = named-good 9 e l o; here = refl; inside = omega (arith, len) }
  split _ (a_choke e l) k = record { bytes = single 10 e l; size = refl; can = refl; fits = tt; good = refl; here = refl; inside = omega (arith, len) }
  split _ (an_unchoke e l) k = record { bytes = single 11 e l; size = refl; can = refl; fits = tt; good = refl; here = refl; inside = omega (arith, len) }
  split _ (an_empty k h e l o) q = none k e l h o
