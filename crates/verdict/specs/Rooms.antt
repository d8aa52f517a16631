-- The rooms of a store (01, "What a store works under") and what they hold, node by node and chunk by chunk. Assumes
-- nothing.
use Rattle.std.specs.Prelude.{ℕ, List}
use Rattle.bits.proofs.Promise.{bit_at}
use Rattle.tree.specs.Bin.{bin}
use Rattle.tree.specs.Pack.{chunk_size, chunks, part}
use Rattle.tree.specs.State.{State}
use Rattle.verdict.specs.Room.{hash_in}

-- Chunk bytes, the chunk map, the hashes and the trusted nodes.
pub record Rooms : Type 0 where
  pub bytes : List ℕ
  pub map : List ℕ
  pub hashes : List ℕ
  pub trusted : List ℕ

abbrev pub rooms_of : List ℕ → List ℕ → List ℕ → List ℕ → Rooms
rooms_of c m h t = record { bytes = c; map = m; hashes = h; trusted = t }

-- The number of chunks of a pack of L bytes.
abbrev pub count_of : ℕ → ℕ
count_of L = chunks chunk_size L

-- The bytes of chunk x of a pack of L bytes.
abbrev pub chunk_in : ℕ → List ℕ → ℕ → List ℕ
chunk_in L s x = part chunk_size L s x

-- What the rooms hold of such a pack.
abbrev pub state_of : ℕ → Rooms → State
state_of L w = record {
  hash = λ h a. hash_in w.hashes (bin h a);
  trust = λ h a. bit_at w.trusted (bin h a);
  in_map = λ x. bit_at w.map x;
  chunk = λ x. chunk_in L w.bytes x;
}
