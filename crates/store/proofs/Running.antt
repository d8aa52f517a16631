-- What holds of a store from its start or its building on, in its rooms: the words of the proofs that a chunk in the map hangs.
-- Assumes nothing.
use Prim.Native.Nat.{ℕ}
use mathlib.Core.Path.{◌≡◌}
use mathlib.Core.Bool.{true}
use mathlib.Core.List.{List}
use lib.ListN.{length}
use Rattle.hash.proofs.Promise.{sha256}
use Rattle.bits.proofs.Promise.{bit_at}
use Rattle.tree.specs.Pack.{root_node}
use Rattle.tree.proofs.Sound.{Sound}
use Rattle.verdict.specs.Room.{filler}
use Rattle.verdict.specs.Rooms.{Rooms, count_of, state_of}
use Rattle.store.specs.Answers.{Enough}

-- Rooms of the same lengths.
pub record SameSizes (w v : Rooms) : Type 0 where
  pub bytes-long : length v.bytes ≡ length w.bytes
  pub map-long : length v.map ≡ length w.map
  pub hashes-long : length v.hashes ≡ length w.hashes
  pub trusted-long : length v.trusted ≡ length w.trusted

-- A store under the order of root r and length L is sound.
unfoldable pub SoundRooms : ℕ → List ℕ → Rooms → Type 0
SoundRooms L r w = Sound sha256 filler (count_of L) r (state_of L w)

-- What holds of a store under root r and length L from its start or its building on.
pub record Running (L : ℕ) (r : List ℕ) (w : Rooms) : Type 0 where
  pub enough : Enough L w
  pub sound : SoundRooms L r w
  pub root-trusted : bit_at w.trusted (root_node (count_of L)) ≡ true
