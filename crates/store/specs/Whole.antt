-- Demand 3's words on the rooms of a store (01, "Demand 3's words"): a chunk that hangs, a whole pack, and two whole
-- packs compared. Assumes nothing.
use Rattle.std.specs.Prelude.{ℕ, ◌<◌, ◌≡◌, true, List, take}
use Rattle.bits.proofs.Promise.{bit_at}
use Rattle.hash.proofs.Promise.{sha256, Bytes}
use Rattle.tree.specs.Walk.{Hangs, here, there, Lowest, Collision}
use Rattle.verdict.specs.Room.{filler}
use Rattle.verdict.specs.Rooms.{Rooms, count_of, state_of}

-- Chunk c hangs from the root r by hashes held in the rooms.
unfoldable pub HangsIn : ℕ → List ℕ → Rooms → ℕ → Type 0
HangsIn L r w c = Hangs sha256 filler (count_of L) r (state_of L w) c

-- All chunks are in the map.
unfoldable pub Whole : ℕ → Rooms → Type 0
Whole L w = (x : ℕ) → x < count_of L → bit_at w.map x ≡ true

-- Two whole packs of one order: the same bytes over the length, or the walk to the lowest chunk that differs names two
-- different strings, hashed at one place of both trees to one SHA-256 value. Where both chunk rooms hold bytes, as
-- every lent one does, so do the two strings; hashes are bytes in any room.
pub data Alike (L : ℕ) (w v : Rooms) : Type 0 where
  same_bytes : take L w.bytes ≡ take L v.bytes → Alike L w v
  collides : (c : ℕ) → Lowest (count_of L) (state_of L w) (state_of L v) c
      → Collision sha256 filler (count_of L) (state_of L w) (state_of L v) c
      → (Bytes w.bytes → Bytes v.bytes → Bytes (here sha256 filler (count_of L) (state_of L w) (state_of L v) c)
      × Bytes (there sha256 filler (count_of L) (state_of L w) (state_of L v) c)) → Alike L w v
