-- The number 12 for an order, and 11 for calls that are lent all eight rooms (01, "Numbers given back"). Assumes nothing.
use Rattle.std.specs.Prelude.{ℕ, ◌*◌, ◌≤◌, length, nat_lt}
use Rattle.base.specs.Pick.{pick}
use Rattle.format.specs.Format.{is_method}
use Rattle.bits.proofs.Promise.{row_words}
use Rattle.table.proofs.Promise.{row_count, state_words}
use Rattle.wire.proofs.Promise.{max_size}
use Rattle.store.proofs.Promise.{earlier, count_of, Enough, rooms_answer}
use Rattle.channel.specs.World.{World, Channels, order_length}

-- 12 for a method that no paper gives (02, No. 1: "a value in an order that no paper gives .. is 12").
unfoldable pub method_answer : ℕ → ℕ
method_answer k = pick (is_method k) 0 12

-- The words for what the peers have of N chunks, and as many for what they want: "per channel" a row as in the map.
abbrev pub peer_words : ℕ → ℕ
peer_words N = row_count * row_words N

-- 11 by the sizes of the other four rooms: s words for the state, h for what the peers have and w for what they want, and
-- r bytes for the reply.
unfoldable pub channel_rooms_answer : (L s h w r : ℕ) → ℕ
channel_rooms_answer L s h w r =
    pick (nat_lt s state_words) 11
    (pick (nat_lt h (peer_words (count_of L))) 11
    (pick (nat_lt w (peer_words (count_of L))) 11
    (pick (nat_lt r max_size) 11 0)))

abbrev pub channels_answer : ℕ → Channels → ℕ
channels_answer L ch = channel_rooms_answer L (length ch.state) (length ch.has) (length ch.wants) (length ch.reply)

-- 12 for the order's length, then 11 for any of the eight rooms.
abbrev pub all_rooms_answer : ℕ → World → ℕ
all_rooms_answer L w = earlier (rooms_answer L w.rooms) (channels_answer L w.channels)

-- The rooms are large enough for a pack of L bytes.
pub record Suffice (L : ℕ) (w : World) : Type 0 where
  pub chunk-rooms : Enough L w.rooms
  pub state : state_words ≤ length w.channels.state
  pub has : peer_words (count_of L) ≤ length w.channels.has
  pub wants : peer_words (count_of L) ≤ length w.channels.wants
  pub reply : max_size ≤ length w.channels.reply

-- The same under the store's own order. Where the room for the state is too small, its words are not looked at: 11.
abbrev pub own_rooms_answer : World → ℕ
own_rooms_answer w = pick (nat_lt (length w.channels.state) state_words) 11 (all_rooms_answer (order_length w.channels.state) w)
