-- The eight rooms as they are lent together: their contents, and that the same rooms are lent still. Assumes nothing.
use Rattle.std.specs.Prelude.{ℕ, ◌≡◌, List, length}
use Rattle.format.specs.declared.Format.{Format}
use Rattle.store.proofs.Promise.{Rooms, rooms_of, length_answer}
use Rattle.channel.specs.declared.rooms.Rooms.{Rooms as Lent}
use Rattle.channel.specs.World.{World, Channels, channels_of, order_length, order_format}

abbrev pub rooms_in : Lent → Rooms
rooms_in r = rooms_of r.chunks.now r.map.now r.hashes.now r.trusted.now

abbrev pub channels_in : Lent → Channels
channels_in r = channels_of r.state.now r.has.now r.wants.now r.reply.now

abbrev pub world_in : Lent → World
world_in r = record { rooms = rooms_in r; channels = channels_in r }

-- The rooms lent in s are those lent in r, of the same sizes.
pub record Kept (r s : Lent) : Type 0 where
  pub state : s.state.ghost_name ≡ r.state.ghost_name
  pub chunks : s.chunks.ghost_name ≡ r.chunks.ghost_name
  pub map : s.map.ghost_name ≡ r.map.ghost_name
  pub hashes : s.hashes.ghost_name ≡ r.hashes.ghost_name
  pub trusted : s.trusted.ghost_name ≡ r.trusted.ghost_name
  pub has : s.has.ghost_name ≡ r.has.ghost_name
  pub wants : s.wants.ghost_name ≡ r.wants.ghost_name
  pub reply : s.reply.ghost_name ≡ r.reply.ghost_name
  pub state_size : length s.state.now ≡ length r.state.now
  pub chunks_size : length s.chunks.now ≡ length r.chunks.now
  pub map_size : length s.map.now ≡ length r.map.now
  pub hashes_size : length s.hashes.now ≡ length r.hashes.now
  pub trusted_size : length s.trusted.now ≡ length r.trusted.now
  pub has_size : length s.has.now ≡ length r.has.now
  pub wants_size : length s.wants.now ≡ length r.wants.now
  pub reply_size : length s.reply.now ≡ length r.reply.now

-- The words of a state have an order of a length that a pack may have, and datagrams under it have this format.
pub record Ordered (st : List ℕ) (F : Format) : Type 0 where
  pub length : length_answer (order_length st) ≡ 0
  pub format : F ≡ order_format st
