-- A store's state as 75 lent words, layout version 2: the version, the root's eight words, the length, the method of
-- addressing chunks, and four words for each of the 16 rows of the channel table. The layout is ours; include/ppspp.h has
-- the same table. A word past the room is read as 0 and not written, so that all of this is said of any words. Assumes
-- nothing.
use Rattle.std.specs.Prelude.{ℕ, zero, suc, ◌+◌, ◌*◌, Bool, true, false, ◌&&◌, List, [], ◌∷◌, ◌++◌, eqb, leb, get_or}
use Rattle.std.proofs.lemmas.List.Edits.{sets}
use Rattle.base.specs.Pick.{pick}
use Rattle.base.specs.Same.{same}
use Rattle.bits.proofs.Promise.{clear_words}
use Rattle.format.specs.declared.Addressing.TheVariants.{Ranges}
use Rattle.format.specs.Format.{method_by, is_method}
use Rattle.order.specs.declared.Order.{Order}
use Rattle.table.specs.declared.rows.Phase.{Phase}
use Rattle.table.specs.declared.rows.Phase.TheVariants.{Free, Calling, Open}
use Rattle.table.specs.declared.rows.Row.{Row}
use Rattle.table.specs.Rows.{row_count, row_at}

-- The layout's version, its number of words, where the method stands and the rows begin, and the words of a row.
abbrev pub layout_version : ℕ
layout_version = 2

abbrev pub state_words : ℕ
state_words = 75

abbrev pub method_place : ℕ
method_place = 10

abbrev pub rows_place : ℕ
rows_place = 11

abbrev pub row_size : ℕ
row_size = 4

-- The place of row i.
abbrev pub row_place : ℕ → ℕ
row_place i = rows_place + row_size * i

-- ---- the rows

-- 1 is a calling row, 2 an open one, and any other number a free one.
unfoldable pub phase_of : ℕ → Phase
phase_of x = pick (eqb x 1) Calling (pick (eqb x 2) Open Free)

-- The row of the four words at a place: phase, our ID, the peer's, and 1 where the choke mark is set.
unfoldable pub row_in : List ℕ → ℕ → Row
row_in w at =
    record {
      phase = phase_of (get_or w at 0);
      id = get_or w (at + 1) 0;
      peer = get_or w (at + 2) 0;
      choked = eqb (get_or w (at + 3) 0) 1;
    }

-- So many rows from a place on.
unfoldable pub rows_from : ℕ → List ℕ → ℕ → List Row
rows_from zero w at = []
rows_from (suc k) w at = row_in w at ∷ rows_from k w (at + row_size)

-- The rows of the channel table.
unfoldable pub rows_in : List ℕ → List Row
rows_in w = rows_from row_count w rows_place

-- A phase, and whether the choke mark is set, as a word.
abbrev pub phase_word : Phase → ℕ
phase_word Free = 0
phase_word Calling = 1
phase_word Open = 2

abbrev pub flag : Bool → ℕ
flag true = 1
flag false = 0

-- The words of a row.
abbrev pub row_cells : Row → List ℕ
row_cells r = phase_word r.phase ∷ r.id ∷ r.peer ∷ flag r.choked ∷ []

-- The words with a row at place i of the table. Where it is that row already nothing changes, nor does anything past the
-- table.
unfoldable pub put_row : List ℕ → ℕ → Row → List ℕ
put_row w i r =
    pick (leb row_count i) w
    (pick (same (row_cells r) (row_cells (row_at (rows_in w) i))) w
    (sets w (row_place i) (row_cells r)))

-- ---- the order

-- No order: its length is 0, so that each call under it but starting and building is refused with 12.
abbrev pub no_order : Order
no_order =
    record {
      root = record { words = 0 ∷ 0 ∷ 0 ∷ 0 ∷ 0 ∷ 0 ∷ 0 ∷ 0 ∷ [] };
      length = 0;
      method = method_by Ranges;
    }

-- Whether the words have an order: they are of this version, and their method is one that a paper gives (02, No. 1: a
-- value in an order that no paper gives is 12).
unfoldable pub has_order : List ℕ → Bool
has_order w = eqb (get_or w 0 0) layout_version && is_method (get_or w method_place 0)

-- The order: the root of words 1 to 8, the length and the method.
unfoldable pub order_in : List ℕ → Order
order_in w =
    pick (has_order w)
    (record {
      root = record {
        words = get_or w 1 0 ∷ get_or w 2 0 ∷ get_or w 3 0 ∷ get_or w 4 0 ∷ get_or w 5 0 ∷ get_or w 6 0 ∷ get_or w 7 0 ∷ get_or w 8 0 ∷ [];
      };
      length = get_or w 9 0;
      method = get_or w method_place 0;
    })
    no_order

-- The words of an order, behind the version.
abbrev pub order_words : Order → List ℕ
order_words o = layout_version ∷ o.root.words ++ o.length ∷ o.method ∷ []

-- The words under a new order: all those of the rows are 0, so every row is free. What stands past the state stays.
unfoldable pub fresh_words : List ℕ → Order → List ℕ
fresh_words w o = clear_words (sets w 0 (order_words o)) rows_place state_words
