-- The bytes of numbers and chunks: their sizes, and whether the method names them. Assumes nothing.
use Prim.Native.Nat.{ℕ, suc, ◌+◌, ◌<◌}
use mathlib.Core.Path.{◌≡◌, refl, ap, ◌∙◌, ap₂, sym}
use mathlib.Core.List.{◌∷◌, ◌++◌}
use lib.ListN.{length, length-append}
use Rattle.writer.specs.Bytes.{bytes32, bytes64, name_bytes, empty_bytes, emptyable, nameable, nameable_by, place_bytes}
use Rattle.format.specs.declared.Addressing.{Addressing}
use Rattle.format.specs.declared.Addressing.TheVariants.{Bins, Ranges}
use mathlib.Core.Bool.{Bool, false, true, true≢false}
use Rattle.format.specs.declared.Format.{Format}
use Rattle.tree.proofs.Promise.{covers}
use Rattle.wire.specs.Place.{empty_bin, named_size, place_by, place_size}
use lib.Dec.{ltb}
use borrow.Author.Tests.{ltb-true}
use Rattle.base.specs.Pick.{pick}

-- ---- sizes

-- four bytes
pub size32 : (x : ℕ) → length (bytes32 x) ≡ 4
unfolding bytes32
size32 x = refl

-- eight bytes
pub size64 : (x : ℕ) → length (bytes64 x) ≡ 8
unfolding bytes64
size64 x = simp (length-append, size32)

-- a type and chunks
pub size_name : (F : Format) (k f l : ℕ) → length (name_bytes F k f l) ≡ named_size F
unfolding name_bytes place_size
size_name F k f l = by F.addressing
  where
    by : (a : Addressing) → suc (length (place_bytes a f l)) ≡ suc (place_by a)
    by Bins = ap suc (size32 _)
    by Ranges = ap suc (length-append (bytes32 f) (bytes32 l) ∙ ap₂ ◌+◌ (size32 f) (size32 l))

-- a type and no chunk
pub size_empty : (F : Format) (k : ℕ) → emptyable F.addressing ≡ true → length (empty_bytes k) ≡ named_size F
unfolding empty_bytes place_size
size_empty F k = by F.addressing
  where
    by : (a : Addressing) → emptyable a ≡ true → suc (length (bytes32 empty_bin)) ≡ suc (place_by a)
    by Bins e = ap suc (size32 empty_bin)
    by Ranges e = absurd (true≢false (sym e))

-- ---- what names chunks

module _ (F : Format) (k f h : ℕ) (named : nameable F f h ≡ true) where
  -- their bin
  pub name-bins : F.addressing ≡ Bins → name_bytes F k f h ≡ k ∷ bytes32 (f + h)
  unfolding name_bytes
  name-bins g = rw (named, g)

  -- a first and a last one
  pub name-ranges : F.addressing ≡ Ranges → name_bytes F k f h ≡ k ∷ (bytes32 f ++ bytes32 h)
  unfolding name_bytes
  name-ranges g = rw (named, g)

-- ---- whether chunks can be named

module _ (F : Format) (f l : ℕ) where
  -- a bin's number has 32 bits
  pub bin_fits : F.addressing ≡ Bins → nameable F f l ≡ true → f + l < empty_bin
  unfolding nameable
  bin_fits h e = by (ltb (f + l) empty_bin) refl (ap (λ (a : Addressing). nameable_by a f l) (sym h) ∙ e)
    where
      by : (b : Bool) → ltb (f + l) empty_bin ≡ b → pick b (covers (f + l) f l) false ≡ true → f + l < empty_bin
      by true q z = ltb-true (f + l) empty_bin q
      by false q z = absurd (true≢false (sym z))
