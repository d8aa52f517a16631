-- The channel table (01, "What a store works under": "There are 16 channels"; "Datagrams", the effects of a HANDSHAKE).
-- Assumes nothing.
use Rattle.std.specs.Prelude.{ℕ, suc, List, [], ◌∷◌, Bool, true, false, Option, Some, None, get_or, eqb, ltb}
use Rattle.base.specs.Pick.{pick}
use Rattle.table.specs.declared.rows.Phase.{Phase}
use Rattle.table.specs.declared.rows.Phase.TheVariants.{Free, Calling, Open}
use Rattle.table.specs.declared.rows.Row.{Row}

-- How many channels there are.
abbrev pub row_count : ℕ
row_count = 16

-- A row is free, calling or open.
abbrev pub is_free : Phase → Bool
is_free Free = true
is_free Calling = false
is_free Open = false

abbrev pub is_open : Phase → Bool
is_open Free = false
is_open Calling = false
is_open Open = true

-- A row's record as after starting.
abbrev pub free_row : Row
free_row = record { phase = Free; id = 0; peer = 0; choked = false }

-- The place of the first row that passes a test; how many rows there are where none does.
unfoldable pub first_row : (Row → Bool) → List Row → ℕ
first_row f [] = 0
first_row f (r ∷ rs) = pick (f r) 0 (suc (first_row f rs))

-- A row is in use under an ID of ours, and open under one.
abbrev pub used_under : ℕ → Row → Bool
used_under id r = pick (is_free r.phase) false (eqb r.id id)

abbrev pub open_under : ℕ → Row → Bool
open_under id r = pick (is_open r.phase) (eqb r.id id) false

-- The lowest free row, the lowest in use under an ID, and the lowest open under an ID.
unfoldable pub lowest_free : List Row → ℕ
lowest_free rs = first_row (λ r. is_free r.phase) rs

unfoldable pub row_of : List Row → ℕ → ℕ
row_of rs id = first_row (used_under id) rs

unfoldable pub open_row_of : List Row → ℕ → ℕ
open_row_of rs id = first_row (open_under id) rs

-- The row that a HANDSHAKE to a channel is for: to 0, the one that it opens.
abbrev pub handshake_row : List Row → ℕ → ℕ
handshake_row rs to = pick (eqb to 0) (lowest_free rs) (row_of rs to)

-- The place of a row that was looked for, if there is one.
abbrev pub in_table : ℕ → Option ℕ
in_table i = pick (ltb i row_count) (Some i) None

-- The row at a place; past the table a free one.
unfoldable pub row_at : List Row → ℕ → Row
row_at rs i = get_or rs i free_row

-- A row in use after a HANDSHAKE from the source a: to a calling channel it opens it; to an open one it changes nothing,
-- unless it closes, which its source 0 says: the row is freed.
unfoldable pub row_after : Row → ℕ → Row
row_after r a =
    pick (is_open r.phase)
    (pick (eqb a 0) free_row r)
    (record { phase = Open; id = r.id; peer = a; choked = r.choked })
