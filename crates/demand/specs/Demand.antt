-- Demand 3: one claim about every list of calls on a fresh or built store (00, demand 3; 01, "Demand 3's words"). The
-- theorem is `demand_3` of proofs/Promise.antt. Assumes nothing.
use Rattle.std.specs.Prelude.{ℕ, ◌<◌, ◌≡◌, Bool, true, List}
use Rattle.bits.proofs.Promise.{bit_at, count_bits}
use Rattle.base.specs.Pick.{pick}
use Rattle.table.proofs.Promise.{order_in}
use Rattle.store.proofs.Promise.{chunk_in, HangsIn, Whole, Alike}
use Rattle.channel.specs.World.{World, order_root, order_length, chunk_count}
use Rattle.channel.specs.Ask.{Asked, ask_spec}
use Rattle.demand.specs.Run.{Call, run, FreshOrBuilt, first_brought, was_brought, brought_bytes}

-- The order's root, its length and the number of chunks of a store.
abbrev pub root_in : World → List ℕ
root_in w = order_root w.channels.state

abbrev pub length_in : World → ℕ
length_in w = order_length w.channels.state

abbrev pub chunks_in : World → ℕ
chunks_in w = chunk_count w.channels.state

-- Whether chunk x is in the map, and its bytes.
abbrev pub in_map : World → ℕ → Bool
in_map w x = bit_at w.rooms.map x

abbrev pub chunk_bytes : World → ℕ → List ℕ
chunk_bytes w x = chunk_in (length_in w) w.rooms.bytes x

-- What asking gives.
abbrev pub ask : World → Asked
ask w = ask_spec w.channels.state w.rooms.map

-- Another store, fresh or built, under the same root and length and any method, after a list of calls of its own, and both
-- whole, as asking says.
pub record BothWhole (w : World) (ks : List Call) (v : World) (js : List Call) : Type 0 where
  pub fresh_or_built : FreshOrBuilt v
  pub same-root : root_in v ≡ root_in w
  pub same_length : length_in v ≡ length_in w
  pub first-whole : (ask (run w ks)).whole ≡ true
  pub second-whole : (ask (run v js)).whole ≡ true

-- What holds of the store w after the list ks.
pub record Demand (w : World) (ks : List Call) : Type 0 where
  -- The order stays.
  pub order-stays : order_in (run w ks).channels.state ≡ order_in w.channels.state
  -- 1. The map has exactly the chunks it had before the list and those that taken datagrams brought,
  pub map_exactly : (x : ℕ) → x < chunks_in w
      → in_map (run w ks) x ≡ pick (in_map w x) true (was_brought (first_brought w ks x))
  -- 2. each with its first bytes: those it had before the list, or else those in the DATA of the first datagram that
  -- brought it.
  pub first-bytes : (x : ℕ) → x < chunks_in w → in_map (run w ks) x ≡ true
      → chunk_bytes (run w ks) x ≡ pick (in_map w x) (chunk_bytes w x) (brought_bytes (first_brought w ks x))
  -- 3. Every chunk in the map hangs from the ordered root by hashes held.
  pub hangs : (x : ℕ) → x < chunks_in w → in_map (run w ks) x ≡ true
      → HangsIn (length_in w) (root_in w) (run w ks).rooms x
  -- 4. Asking is answered with 0, counts the chunks in the map, and calls the pack whole exactly when every chunk is in it.
  pub answered : (ask (run w ks)).answer ≡ 0
  pub counted : (ask (run w ks)).held ≡ count_bits (run w ks).rooms.map (chunks_in w)
  pub whole_only : (ask (run w ks)).whole ≡ true → Whole (length_in w) (run w ks).rooms
  pub whole_if : Whole (length_in w) (run w ks).rooms → (ask (run w ks)).whole ≡ true
  -- 5. Two such stores, both whole, hold the same bytes over the length, or the walk to the lowest chunk that differs names
  -- two different strings, at one place of both trees, with one SHA-256 value.
  pub alike : (v : World) (js : List Call) → BothWhole w ks v js
      → Alike (length_in w) (run w ks).rooms (run v js).rooms
