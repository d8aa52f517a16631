-- What the crates above know of this one: of its definitions the names passed on here, what is read from any words and
-- after a row or an order was put, and which numbers the table can give. Assumes nothing.
use Prim.Native.Nat.{ℕ}
use mathlib.Core.Path.{◌≡◌, refl}
use mathlib.Core.Logic.{◌≢◌, ◌⊎◌}
use mathlib.Core.Bool.{Bool, true}
use mathlib.Core.List.{List, [], ◌∷◌}
use lib.ListN.{get_or}
use Rattle.base.specs.Among.{OneOf}
use Rattle.table.specs.declared.rows.Row.{Row}
use Rattle.table.proofs.NumberLaws as numbers
pub use Rattle.table.specs.Rows.{row_count, free_row, lowest_free, row_of, open_row_of, handshake_row, in_table, row_at, row_after}
pub use Rattle.table.specs.Answers.{open_answer, messages_answer, handshake_answer, write_answer}
pub use Rattle.table.specs.Words.{layout_version, state_words, method_place, flag, rows_in, put_row, no_order, order_in, fresh_words}
pub use Rattle.table.proofs.RowWordLaws.{rows_length, peer-fits, flag_same, put_row_same, put-row-rows, put-row-order, put-row-length}
pub use Rattle.table.proofs.OrderLaws.{root-eight, order-method, unknown-method, fresh-order, fresh-rows, fresh-length}

-- The row at a place; past the table a free one.
pub row_at_lem : (rs : List Row) (i : ℕ) → row_at rs i ≡ get_or rs i free_row
unfolding row_at
row_at_lem rs i = refl

-- ---- the numbers that it can give

pub open_numbered : (rs : List Row) (id : ℕ) → OneOf (0 ∷ 6 ∷ 14 ∷ []) (open_answer rs id)
open_numbered = numbers.open-one

pub messages_numbered : (rs : List Row) (to : ℕ) (keepalive : Bool) → OneOf (0 ∷ 3 ∷ 5 ∷ []) (messages_answer rs to keepalive)
messages_numbered = numbers.messages-one

pub handshake_numbered : (rs : List Row) (to a : ℕ) (ours : Bool) (id : ℕ) → OneOf (0 ∷ 3 ∷ 4 ∷ 5 ∷ 6 ∷ 14 ∷ []) (handshake_answer rs to a ours id)
handshake_numbered = numbers.handshake-one

pub write_numbered : (rs : List Row) (id : ℕ) → OneOf (0 ∷ 3 ∷ []) (write_answer rs id)
write_numbered = numbers.write-one

-- ---- what the number 0 says

-- A channel is opened under another ID than 0, by a call of ours and by a HANDSHAKE to channel 0.
pub open_some : (rs : List Row) (id : ℕ) → open_answer rs id ≡ 0 → id ≢ 0
open_some = numbers.open_some

pub handshake-opened : (rs : List Row) (to a : ℕ) (ours : Bool) (id : ℕ) → to ≡ 0 → handshake_answer rs to a ours id ≡ 0 → id ≢ 0
handshake-opened = numbers.handshake-opened

-- A HANDSHAKE that is taken has the options of the order, or closes.
pub handshake_taken_lem : (rs : List Row) (to a : ℕ) (ours : Bool) (id : ℕ) → handshake_answer rs to a ours id ≡ 0 → (ours ≡ true) ⊎ (a ≡ 0)
handshake_taken_lem = numbers.handshake_taken_lem
