-- The hashes that came with a chunk (RFC 7574, 8.8: INTEGRITY): pairs of a node's number and the place of its hash in
-- a slice of bytes. Assumes nothing.
use Rattle.std.specs.Prelude.{ℕ, ◌+◌, List, [], ◌∷◌, leb, eqb, length, drop, Option as Found, Some, None}
use Rattle.std.proofs.Math.Option.{Option, none, some}
use Rattle.hash.proofs.Promise.{bytes_of, words}
use Rattle.base.specs.Pick.{pick}
use Rattle.tree.specs.Bin.{bin}
use Rattle.tree.specs.Verdicts.{Came}
use Rattle.verdict.specs.declared.integrity.Integrity.{Integrity as Lent}

-- The entries, a node's number and a place in turn, and the bytes.
pub record Integrity : Type 0 where
  pub entries : List ℕ
  pub bytes : List ℕ

abbrev pub integrity_of : List ℕ → List ℕ → Integrity
integrity_of es s = record { entries = es; bytes = s }

-- What the lent slices hold of it.
abbrev pub integrity_in : Lent → Integrity
integrity_in o = integrity_of o.entries.now o.bytes.now

-- The place of the first entry for node b.
unfoldable pub find : List ℕ → ℕ → Found ℕ
find [] b = None
find (n ∷ []) b = None
find (n ∷ p ∷ es) b = pick (eqb n b) (Some p) (find es b)

-- The 32 bytes from place p on, if there are as many.
abbrev pub hash_from : List ℕ → Found ℕ → Option (List ℕ)
hash_from s None = none
hash_from s (Some p) = pick (leb (p + 32) (length s)) (some (bytes_of (words 8 (drop p s)))) none

-- Node b's hash, if it came.
unfoldable pub hash_for : Integrity → ℕ → Option (List ℕ)
hash_for o b = hash_from o.bytes (find o.entries b)

-- The hashes that came, by height and first chunk.
abbrev pub came_from : Integrity → Came
came_from o h a = hash_for o (bin h a)
