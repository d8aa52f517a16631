-- The sizes of the eight rooms, and the numbers 12 and 11 by these alone. Assumes nothing.
use Rattle.std.specs.Prelude.{ℕ, length, nat_lt}
use Rattle.base.specs.Pick.{pick}
use Rattle.table.proofs.Promise.{state_words}
use Rattle.store.proofs.Promise.{earlier, order_answer, build_answer}
use Rattle.store.proofs.Promise.{sizes_of as store_sizes}
use Rattle.channel.specs.declared.rooms.Sizes.{Sizes}
use Rattle.channel.specs.World.{World}
use Rattle.channel.specs.Answers.{channel_rooms_answer}

abbrev pub sizes_of : World → Sizes
sizes_of w = record {
  state = length w.channels.state;
  store = store_sizes w.rooms;
  has = length w.channels.has;
  wants = length w.channels.wants;
  reply = length w.channels.reply;
}

-- The rooms for the channels, under a length; all eight; the same under the store's own order; and for building.
abbrev pub sides_answer : ℕ → Sizes → ℕ
sides_answer L s = channel_rooms_answer L s.state s.has s.wants s.reply

abbrev pub all_answer : ℕ → Sizes → ℕ
all_answer L s = earlier (order_answer L s.store.chunks s.store.map s.store.hashes s.store.trusted) (sides_answer L s)

abbrev pub own_answer : ℕ → Sizes → ℕ
own_answer L s = pick (nat_lt s.state state_words) 11 (all_answer L s)

abbrev pub built_answer : ℕ → ℕ → Sizes → ℕ
built_answer L n s =
    earlier (build_answer L n s.store.chunks s.store.map s.store.hashes s.store.trusted) (sides_answer L s)
