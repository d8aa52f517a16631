-- Numbers and chunks as bytes of a datagram (01, "Datagrams": "all numbers big-endian"; 02, No. 1: "one bin in place of the
-- range"). Assumes nothing.
use Rattle.std.specs.Prelude.{ℕ, ◌+◌, ◌/◌, ◌%◌, List, [], ◌∷◌, ◌++◌, Bool, true, false, ltb, eqb}
use Rattle.base.specs.Pick.{pick}
use Rattle.format.specs.declared.Addressing.{Addressing}
use Rattle.format.specs.declared.Addressing.TheVariants.{Bins, Ranges}
use Rattle.format.specs.declared.Format.{Format}
use Rattle.tree.proofs.Promise.{covers}
use Rattle.wire.specs.Place.{empty_bin, everything_bin}

-- The four and the eight bytes of a number.
unfoldable pub bytes32 : ℕ → List ℕ
bytes32 x = x / 16777216 % 256 ∷ x / 65536 % 256 ∷ x / 256 % 256 ∷ x % 256 ∷ []

unfoldable pub bytes64 : ℕ → List ℕ
bytes64 x = bytes32 (x / 4294967296) ++ bytes32 (x % 4294967296)

-- Whether the method names the chunks f..l. A range does for any two numbers; a bin where they are those of a node, whose
-- number is f + l (tree, Range), below that of the empty bin.
abbrev pub nameable_by : Addressing → (f l : ℕ) → Bool
nameable_by Bins f l = pick (ltb (f + l) empty_bin) (covers (f + l) f l) false
nameable_by Ranges f l = true

unfoldable pub nameable : Format → (f l : ℕ) → Bool
nameable F f l = nameable_by F.addressing f l

-- Whether they are everything, by the bin that says so.
abbrev pub everything_by : Addressing → (f l : ℕ) → Bool
everything_by Bins f l = eqb (f + l) everything_bin
everything_by Ranges f l = false

unfoldable pub is_everything : Format → (f l : ℕ) → Bool
is_everything F f l = everything_by F.addressing f l

-- Whether the method can name no chunk at all.
abbrev pub emptyable : Addressing → Bool
emptyable Bins = true
emptyable Ranges = false

-- The chunks f..l: first and last, 32 bits each, or their bin.
abbrev pub place_bytes : Addressing → (f l : ℕ) → List ℕ
place_bytes Bins f l = bytes32 (f + l)
place_bytes Ranges f l = bytes32 f ++ bytes32 l

-- A message's type k and the chunks that it names. "Under bins a message to be added over chunks that no bin names is 2": the
-- type of what stands for one, which has its size, is the refused type 255.
unfoldable pub name_bytes : Format → (k f l : ℕ) → List ℕ
name_bytes F k f l = pick (nameable F f l) k 255 ∷ place_bytes F.addressing f l

-- A message's type, and no chunk.
unfoldable pub empty_bytes : ℕ → List ℕ
empty_bytes k = k ∷ bytes32 empty_bin
