-- Starting a store, and building a whole one (01, "What a store works under"). Assumes nothing.
use Rattle.std.specs.Prelude.{ℕ, List, length}
use Rattle.hash.proofs.Promise.{bytes_of, words}
use Rattle.bits.proofs.Promise.{clear_words}
use Rattle.table.proofs.Promise.{fresh_words}
use Rattle.store.proofs.Promise.{earlier, count_of, build_answer}
use Rattle.store.proofs.Promise as store
use Rattle.order.specs.declared.Order.{Order}
use Rattle.channel.specs.World.{World, Channels, channels_of, Out, out_of, unless}
use Rattle.channel.specs.Answers.{peer_words, method_answer, channels_answer, all_rooms_answer}

-- "An order is a root hash (32 bytes) and a length"; it "names the method, 0 or 2" (02, No. 1).
abbrev pub order_of : (root : List ℕ) (L method : ℕ) → Order
order_of root L method = record { root = record { words = words 8 root }; length = L; method = method }

-- The channels under a new order: every row free, all bit rows cleared, the reply room as it is.
unfoldable pub fresh_channels : Order → Channels → Channels
fresh_channels o ch =
    channels_of (fresh_words ch.state o)
    (clear_words ch.has 0 (peer_words (count_of o.length)))
    (clear_words ch.wants 0 (peer_words (count_of o.length)))
    ch.reply

-- 12 for the order's method, then 12 for its length and 11 for any of the eight rooms.
abbrev pub start_number : World → Order → ℕ
start_number w o = earlier (method_answer o.method) (all_rooms_answer o.length w)

-- "Starting clears all bit rows and the channel table, writes the root's hash and sets its trusted bit, nothing else".
unfoldable pub start_spec : World → Order → Out World
start_spec w o =
    unless (start_number w o) w
    (out_of 0 0 (record {
      rooms = (store.start_spec w.rooms (bytes_of o.root.words) o.length).after;
      channels = fresh_channels o w.channels;
    }))

-- The same for building, 12 also for "content of another length".
abbrev pub build_number : World → Order → List ℕ → ℕ
build_number w o s =
    earlier (method_answer o.method)
    (earlier
    (build_answer o.length (length s) (length w.rooms.bytes) (length w.rooms.map)
    (length w.rooms.hashes) (length w.rooms.trusted))
    (channels_answer o.length w.channels))

-- "Building takes L and content ..; the root found becomes the order's; the rest is as after starting". The root of the order that
-- is handed in is not looked at.
unfoldable pub build_spec : World → Order → List ℕ → Out World
build_spec w o s =
    unless (build_number w o s) w
    (out_of 0 0 (record {
      rooms = (store.build_spec w.rooms o.length s).after;
      channels = fresh_channels (order_of (store.root_of s) o.length o.method) w.channels;
    }))
