-- The hash room: eight words for each node, by its number (01, "What a store works under": 16 words of 32 bits for
-- each leaf place of the tree), and the 32 bytes that they stand for. Assumes nothing.
use Rattle.std.specs.Prelude.{ℕ, zero, suc, ◌*◌, ◌/◌, ◌≡◌, Bool, List, [], ◌∷◌, ltb, length, get_or, replicate}
use Rattle.std.proofs.lemmas.List.Edits.{sets}
use Rattle.hash.proofs.Promise.{bytes_of, words, Bytes}
use Rattle.base.specs.Pick.{pick}

-- The filler: 32 zero bytes.
unfoldable pub filler : List ℕ
filler = replicate 32 0

-- A hash is 32 bytes.
unfoldable pub Digest : List ℕ → Type 0
Digest v = Bytes v × (length v ≡ 32)

-- n words from place i on.
unfoldable pub words_at : ℕ → List ℕ → ℕ → List ℕ
words_at zero l i = []
words_at (suc n) l i = get_or l i 0 ∷ words_at n l (suc i)

-- The room has a place for node b.
abbrev pub holds : List ℕ → ℕ → Bool
holds hashes b = ltb b (length hashes / 8)

-- The hash of node b; of a node past the room the filler.
unfoldable pub hash_in : List ℕ → ℕ → List ℕ
hash_in hashes b = pick (holds hashes b) (bytes_of (words_at 8 hashes (8 * b))) filler

-- The room with v for node b's hash; a room without a place for it stays as it is.
unfoldable pub put_hash : List ℕ → ℕ → List ℕ → List ℕ
put_hash hashes b v = pick (holds hashes b) (sets hashes (8 * b) (words 8 v)) hashes
