-- A store and its lent rooms (01, "What a store works under"), and what a call gives and leaves. Assumes nothing.
use Rattle.std.specs.Prelude.{ℕ, ◌+◌, ◌*◌, List}
use Rattle.hash.proofs.Promise.{bytes_of}
use Rattle.bits.proofs.Promise.{row_words, clear_words}
use Rattle.format.specs.Format.{format_of}
use Rattle.format.specs.declared.Format.{Format}
use Rattle.table.proofs.Promise.{rows_in, order_in}
use Rattle.table.specs.declared.rows.Row.{Row}
use Rattle.store.proofs.Promise.{Rooms, rooms_of, count_of}
pub use Rattle.base.specs.Out.{Out, out_at, out_of, is_named, node_number, named_by, unless_at, unless, Unaltered}

-- The words of the store's state (its order and its channel table), the rooms for what the peers have and want, and the
-- reply room.
pub record Channels : Type 0 where
  pub state : List ℕ
  pub has : List ℕ
  pub wants : List ℕ
  pub reply : List ℕ

-- A store: its chunk rooms and its channels.
pub record World : Type 0 where
  pub rooms : Rooms
  pub channels : Channels

abbrev pub channels_of : List ℕ → List ℕ → List ℕ → List ℕ → Channels
channels_of st has wants reply = record { state = st; has = has; wants = wants; reply = reply }

abbrev pub world_of : List ℕ → List ℕ → List ℕ → List ℕ → List ℕ → List ℕ → List ℕ → List ℕ → World
world_of st chunks map hashes trusted has wants reply =
    record { rooms = rooms_of chunks map hashes trusted; channels = channels_of st has wants reply }

-- A call that changes the channels alone leaves the chunk rooms as they are.
abbrev pub beside : Rooms → Out Channels → Out World
beside rooms out = out_of out.answer out.len (record { rooms = rooms; channels = out.after })

-- ---- parts of the state

-- The order's root and length in the state's words, the number of chunks, the format of datagrams under the order's method, and the
-- rows of the channel table.
abbrev pub order_root : List ℕ → List ℕ
order_root st = bytes_of (order_in st).root.words

abbrev pub order_length : List ℕ → ℕ
order_length st = (order_in st).length

abbrev pub chunk_count : List ℕ → ℕ
chunk_count st = count_of (order_length st)

abbrev pub order_format : List ℕ → Format
order_format st = format_of (order_in st).method

abbrev pub table_rows : List ℕ → List Row
table_rows st = rows_in st

-- ---- bit rows by channel

-- "N bits a row, .. every row in whole words": row i begins behind the words of the rows before it.
abbrev pub row_start : ℕ → ℕ → ℕ
row_start N i = row_words N * i

-- The place of its first bit.
abbrev pub row_bit : ℕ → ℕ → ℕ
row_bit N i = 32 * row_start N i

-- A room with row i cleared.
abbrev pub cleared_row : ℕ → ℕ → List ℕ → List ℕ
cleared_row N i ws = clear_words ws (row_start N i) (row_start N i + row_words N)
