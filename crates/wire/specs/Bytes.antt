-- Bytes in a datagram (01, "Datagrams": "all numbers big-endian"). Assumes nothing.
use Rattle.std.specs.Prelude.{ℕ, ◌+◌, ◌*◌, List, [], ◌∷◌, Bool, true, false, get_or, eqb}
use Rattle.std.proofs.lemmas.List.Edits.{sets}
use Rattle.base.specs.Pick.{pick}

-- The number in the two, four or eight bytes from index k.
abbrev pub be16 : List ℕ → ℕ → ℕ
be16 s k = get_or s k 0 * 256 + get_or s (k + 1) 0

abbrev pub be32 : List ℕ → ℕ → ℕ
be32 s k = be16 s k * 65536 + be16 s (k + 2)

abbrev pub be64 : List ℕ → ℕ → ℕ
be64 s k = be32 s k * 4294967296 + be32 s (k + 4)

-- Whether s begins with the bytes p.
unfoldable pub begins : List ℕ → List ℕ → Bool
begins [] s = true
begins (x ∷ p) [] = false
begins (x ∷ p) (y ∷ s) = pick (eqb x y) (begins p s) false

-- A room with a list stored from index `at` on; what would lie past its end is dropped.
unfoldable pub placed : List ℕ → ℕ → List ℕ → List ℕ
placed room at l = sets room at l
