-- Chunks written by a method and read again, and the other way round: the facts that each method proves of its names, once
-- for all messages. Assumes nothing.
use Prim.Native.Nat.{ℕ, suc, ◌+◌, ◌*◌, ◌<◌, ◌≤◌, ◌^◌}
use native.Mathlib.Omega.{arith}
use mathlib.Core.Path.{◌≡◌, refl, sym, ap, ◌∙◌}
use mathlib.Core.List.{List, ◌∷◌, ◌++◌, append_assoc}
use mathlib.Core.Bool.{Bool, true, false, true≢false}
use lib.ListN.{length, get_or, drop}
use lib.Dec.{ltb, eqb}
use borrow.Author.Tests.{lt-ltb, eq-eqb, ne_eqb, ltb-true, eqb-true, eqb-false}
use Rattle.base.specs.Pick.{pick}
use Rattle.format.specs.declared.Addressing.{Addressing}
use Rattle.format.specs.declared.Addressing.TheVariants.{Bins, Ranges}
use Rattle.format.specs.declared.Format.{Format}
use Rattle.tree.proofs.Promise.{bin, first, last, covers, first_chunk, first_plus_last}
use Rattle.wire.specs.Bytes.{be32}
use Rattle.wire.specs.Place.{place_by, place_size, named_size, empty_bin, everything_bin}
use Rattle.wire.specs.Place.{first_by, first_of, last_by, last_of, empty_by, is_empty, special_by, is_special}
use Rattle.writer.specs.Bytes.{bytes32, nameable_by, nameable, everything_by, is_everything, emptyable, place_bytes, name_bytes, empty_bytes}
use Rattle.writer.specs.Lists.{AreBytes}
use Rattle.writer.proofs.NumberLaws.{source_is, range-first, range_last, be32-fits, peel, split-word}

-- What bytes t that name f..l say.
pub record Back (a : Addressing) (f l : ℕ) (t : List ℕ) : Type 0 where
  pub first_back : first_by a t ≡ f
  pub last-back : last_by a t ≡ l
  pub not_empty : empty_by a t ≡ false
  pub special : special_by a t ≡ everything_by a f l

-- What is known of bytes t that name some chunks: they are those that would be written, and the method names them.
pub record Split (a : Addressing) (t : List ℕ) : Type 0 where
  pub bytes : place_bytes a (first_by a t) (last_by a t) ++ drop (suc (place_by a)) t ≡ drop 1 t
  pub named : nameable_by a (first_by a t) (last_by a t) ≡ true
  pub special : everything_by a (first_by a t) (last_by a t) ≡ special_by a t
  pub first_fits : first_by a t < 2 ^ 32
  pub last_fits : last_by a t < 2 ^ 32

-- The facts of a method's names: what is written, behind any type k, reads back; what was read is what would be written;
-- and so for no chunk at all.
pub record Names (a : Addressing) : Type 0 where
  pub back : (k f l : ℕ) (r : List ℕ) → nameable_by a f l ≡ true → f < 2 ^ 32 → l < 2 ^ 32 → Back a f l (k ∷ place_bytes a f l ++ r)
  pub split : (t : List ℕ) → AreBytes t → suc (place_by a) ≤ length t → empty_by a t ≡ false → Split a t
  pub none-back : (k : ℕ) (r : List ℕ) → emptyable a ≡ true → empty_by a (k ∷ bytes32 empty_bin ++ r) ≡ true
  pub none-split : (t : List ℕ) → AreBytes t → suc (place_by a) ≤ length t → empty_by a t ≡ true
      → (emptyable a ≡ true) × (bytes32 empty_bin ++ drop (suc (place_by a)) t ≡ drop 1 t)

-- ---- bins

-- a bin over f..l is that of a node below the empty one
bin-node : (f l : ℕ) → nameable_by Bins f l ≡ true → (f + l < empty_bin) × (first (f + l) ≡ f) × (last (f + l) ≡ l)
bin-node f l = by (ltb (f + l) empty_bin) (eqb (first (f + l)) f) refl refl
  where
    by : (x y : Bool) → ltb (f + l) empty_bin ≡ x → eqb (first (f + l)) f ≡ y → pick x (pick y (eqb (last (f + l)) l) false) false ≡ true
        → (f + l < empty_bin) × (first (f + l) ≡ f) × (last (f + l) ≡ l)
    by true true p q e = (ltb-true (f + l) empty_bin p, eqb-true _ f q, eqb-true _ l e)
    by true false p q e = absurd (true≢false (sym e))
    by false y p q e = absurd (true≢false (sym e))

bins_back : (k f l : ℕ) (r : List ℕ) → nameable_by Bins f l ≡ true → Back Bins f l (k ∷ bytes32 (f + l) ++ r)
bins_back k f l r e =
    let n = bin-node f l e in
    let b : be32 (k ∷ bytes32 (f + l) ++ r) 1 ≡ f + l = source_is k (f + l) r (omega (arith, n.0)) in
    record {
      first_back = ap first b ∙ n.1;
      last-back = ap last b ∙ n.2;
      not_empty = rw (b, ne_eqb (f + l) empty_bin (λ z. omega (arith, z, n.0)));
      special = rw (b, ne_eqb (f + l) empty_bin (λ z. omega (arith, z, n.0)));
    }

bins_split : (t : List ℕ) → AreBytes t → 5 ≤ length t → eqb (be32 t 1) empty_bin ≡ false → Split Bins t
bins_split t small h e =
    let b = be32 t 1 in
    let s = first_plus_last b in
    let fits = be32-fits t small 1 in
    let low : b < empty_bin = omega (arith, fits, eqb-false b empty_bin e) in
    record {
      bytes = rw s (split-word t small 1 h);
      named = rw (s, lt-ltb b empty_bin low, eq-eqb (first b) (first b) refl, eq-eqb (last b) (last b) refl);
      special = rw (s, e);
      first_fits = omega (arith, s, fits);
      last_fits = omega (arith, s, fits);
    }

-- ---- ranges

ranges_split : (t : List ℕ) → AreBytes t → 9 ≤ length t → Split Ranges t
ranges_split t small h =
    record {
      bytes = append_assoc (bytes32 (be32 t 1)) (bytes32 (be32 t 5)) (drop 9 t)
          ∙ ap (λ (r : List ℕ). bytes32 (be32 t 1) ++ r) (split-word t small 5 h) ∙ split-word t small 1 (omega arith);
      named = refl;
      special = refl;
      first_fits = be32-fits t small 1;
      last_fits = be32-fits t small 5;
    }

-- ---- both methods

names : (a : Addressing) → Names a
names Bins =
    record {
      back = λ k f l r e hf hl. bins_back k f l r e;
      split = bins_split;
      none-back = λ k r e. rw (source_is k empty_bin r (omega arith));
      none-split = λ t small h e. (refl, ap (λ (x : ℕ). bytes32 x ++ drop 5 t) (sym (eqb-true (be32 t 1) empty_bin e)) ∙ split-word t small 1 h);
    }
names Ranges =
    record {
      back = λ k f l r e hf hl. record {
        first_back = range-first k f l r hf;
        last-back = range_last k f l r hl;
        not_empty = refl;
        special = refl;
      };
      split = λ t small h e. ranges_split t small h;
      none-back = λ k r e. absurd (true≢false (sym e));
      none-split = λ t small h e. absurd (true≢false (sym e));
    }

-- ---- of a format: what is written

module _ (F : Format) (k f l : ℕ) (r : List ℕ) where
  -- chunks that no bin names
  pub name-refused : nameable F f l ≡ false → get_or (name_bytes F k f l ++ r) 0 0 ≡ 255
  unfolding name_bytes
  name-refused e = rw e

  module _ (e : nameable F f l ≡ true) where
    pub name-type : get_or (name_bytes F k f l ++ r) 0 0 ≡ k
    unfolding name_bytes
    name-type = rw e

    module _ (hf : f < 2 ^ 32) (hl : l < 2 ^ 32) where
      pub name-first : first_of F (name_bytes F k f l ++ r) ≡ f
      unfolding name_bytes first_of nameable
      name-first = ((names F.addressing).back _ f l r e hf hl).first_back

      pub name-last : last_of F (name_bytes F k f l ++ r) ≡ l
      unfolding name_bytes last_of nameable
      name-last = ((names F.addressing).back _ f l r e hf hl).last-back

      pub name-some : is_empty F (name_bytes F k f l ++ r) ≡ false
      unfolding name_bytes is_empty nameable
      name-some = ((names F.addressing).back _ f l r e hf hl).not_empty

      pub name-special : is_special F (name_bytes F k f l ++ r) ≡ is_everything F f l
      unfolding name_bytes is_special is_everything nameable
      name-special = ((names F.addressing).back _ f l r e hf hl).special

-- no chunk
pub none_empty : (F : Format) (k : ℕ) (r : List ℕ) → emptyable F.addressing ≡ true → is_empty F (empty_bytes k ++ r) ≡ true
unfolding is_empty empty_bytes
none_empty F k r e = (names F.addressing).none-back k r e

-- ---- of a format: what was read

module _ (F : Format) (t : List ℕ) (small : AreBytes t) (h : named_size F ≤ length t) where
  module _ (o : is_empty F t ≡ false) where
    split-of : Split F.addressing t
    unfolding is_empty place_size
    split-of = (names F.addressing).split t small h o

    pub split-named : nameable F (first_of F t) (last_of F t) ≡ true
    unfolding nameable first_of last_of
    split-named = split-of.named

    pub split-everything : is_everything F (first_of F t) (last_of F t) ≡ is_special F t
    unfolding is_everything is_special first_of last_of
    split-everything = split-of.special

    pub split-widths : (first_of F t < 2 ^ 32) × (last_of F t < 2 ^ 32)
    unfolding first_of last_of
    split-widths = (split-of.first_fits, split-of.last_fits)

    pub split-name : (k : ℕ) → get_or t 0 0 ≡ k → name_bytes F k (first_of F t) (last_of F t) ++ drop (named_size F) t ≡ t
    unfolding name_bytes first_of last_of place_size
    split-name k e = rw (split-named, ← e) (ap (λ (r : List ℕ). get_or t 0 0 ∷ r) split-of.bytes ∙ peel t small 0 (omega arith))

  module _ (o : is_empty F t ≡ true) where
    pub none-says : emptyable F.addressing ≡ true
    unfolding is_empty place_size
    none-says = ((names F.addressing).none-split t small h o).0

    pub none-name : (k : ℕ) → get_or t 0 0 ≡ k → empty_bytes k ++ drop (named_size F) t ≡ t
    unfolding is_empty empty_bytes place_size
    none-name k e = rw (← e) (ap (λ (r : List ℕ). get_or t 0 0 ∷ r) ((names F.addressing).none-split t small h o).1 ∙ peel t small 0 (omega arith))

-- ---- of a format: what it names

-- a range any chunks,
pub ranges_name : (F : Format) (f l : ℕ) → F.addressing ≡ Ranges → nameable F f l ≡ true
unfolding nameable
ranges_name F f l e = rw e

-- a bin those of a node alone
pub bins_name : (F : Format) (f l : ℕ) → F.addressing ≡ Bins → nameable F f l ≡ true → (first (f + l) ≡ f) × (last (f + l) ≡ l)
unfolding nameable
bins_name F f l e n = let b = bin-node f l (rw e at n) in (b.1, b.2)

-- ---- of a format: the chunks of a node b, and a chunk c alone

-- the node covers its own
pub node-covers : (b : ℕ) → covers (first b + last b) (first b) (last b) ≡ true
node-covers b = rw (first_plus_last b, eq-eqb (first b) (first b) refl, eq-eqb (last b) (last b) refl)

-- below the empty bin they are named
pub node-nameable : (F : Format) (b : ℕ) → b < empty_bin → nameable F (first b) (last b) ≡ true
unfolding nameable
node-nameable F b h = by F.addressing
  where
    by : (a : Addressing) → nameable_by a (first b) (last b) ≡ true
    by Bins = rw (lt-ltb (first b + last b) empty_bin (omega (arith, first_plus_last b, h)), node-covers b)
    by Ranges = refl

-- chunk c is that of leaf 2 * c
leaf : (c : ℕ) → (first (2 * c) ≡ c) × (last (2 * c) ≡ c)
leaf c =
    let n : 2 * c ≡ bin 0 (c * 2 ^ 0) = omega arith in
    let e : first (2 * c) ≡ c = ap first n ∙ first_chunk 0 c ∙ omega arith in
    (e, omega (arith, e, first_plus_last (2 * c)))

pub chunk-nameable : (F : Format) (c : ℕ) → 2 * c < empty_bin → nameable F c c ≡ true
chunk-nameable F c h = rw ((leaf c).0, (leaf c).1) at (node-nameable F (2 * c) h)

-- chunks whose bin would be below everything's are not everything
pub not_everything : (F : Format) (f l : ℕ) → f + l < everything_bin → is_everything F f l ≡ false
unfolding is_everything
not_everything F f l h = by F.addressing
  where
    by : (a : Addressing) → everything_by a f l ≡ false
    by Bins = ne_eqb (f + l) everything_bin (λ z. omega (arith, z, h))
    by Ranges = refl
