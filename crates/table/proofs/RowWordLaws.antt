-- The rows of the channel table in the words of a state: read, found and put. Assumes nothing.
use Prim.Native.Nat.{ℕ, zero, suc, ◌+◌, ◌*◌, ◌^◌, ◌<◌, ◌≤◌}
use native.Mathlib.Omega.{arith}
use native.Mathlib.Decide.{dec_lt, ℕ_discrete}
use mathlib.Core.Path.{◌≡◌, refl, sym, ap, ◌∙◌}
use mathlib.Core.Logic.{◌≢◌}
use mathlib.Core.Bool.{Bool, true, false, not, beq, ◌&&◌}
use denote.Enum.Bare.{sameb}
use Rattle.table.specs.contracts.rows.Phase.{the_type as Phase-is}
use mathlib.Core.List.{List}
use lib.Dec.{eqb}
use lib.ListN.{length, get_or, set, length-set, get_or-eq_default}
use lib.Seq.{sets, set-get_or, length-sets, set_out, get_or-set_same, get_or-set_other, ext_get_or}
use borrow.Author.Tests.{not-false, not-true, le-leb, lt-leb}
use Rattle.base.specs.Same.{same}
use Rattle.base.proofs.SameLaws.{same_refl, same_is}
use Rattle.table.specs.declared.rows.Phase.{Phase}
use Rattle.table.specs.declared.rows.Phase.TheVariants.{Free, Calling, Open}
use Rattle.table.specs.declared.rows.Row.{Row}
use Rattle.table.specs.Rows.{row_count, free_row, row_at}
use Rattle.table.specs.Words.{state_words, method_place, rows_place, row_size, row_place, phase_of, row_in, rows_from, rows_in, phase_word, flag, row_cells, put_row, has_order, order_in}
use Rattle.table.proofs.CellLaws.{cell_before, cell_behind, cell_of}

-- ---- a row that was put

phase_back : (p : Phase) → phase_of (phase_word p) ≡ p
unfolding phase_of
phase_back Free = refl
phase_back Calling = refl
phase_back Open = refl

flag-back : (b : Bool) → eqb (flag b) 1 ≡ b
flag-back true = refl
flag-back false = refl

-- Marks of the same word are the same.
pub flag_same : (a b : Bool) → flag a ≡ flag b → a ≡ b
flag_same a b e = sym (flag-back a) ∙ ap (λ (x : ℕ). eqb x 1) e ∙ flag-back b

row_back : (r : Row) → row_in (row_cells r) 0 ≡ r
unfolding row_in
row_back r = rw (phase_back r.phase, flag-back r.choked)

-- Rows of the same words are the same.
cells_same : (r s : Row) → row_cells r ≡ row_cells s → r ≡ s
cells_same r s e = sym (row_back r) ∙ ap (λ (l : List ℕ). row_in l 0) e ∙ row_back s

module _ (w : List ℕ) (at : ℕ) (r : Row) where
  -- is that row,
  pub row-put-same : at + row_size ≤ length w → row_in (sets w at (row_cells r)) at ≡ r
  unfolding row_in
  row-put-same h =
      let cell : (k : ℕ) → k < row_size → get_or (sets w at (row_cells r)) (at + k) 0 ≡ get_or (row_cells r) k 0 = λ k b. cell_of (row_cells r) w at k b h in
      let z : at + 0 ≡ at = omega arith in
      let e₀ : get_or (sets w at (row_cells r)) at 0 ≡ phase_word r.phase = rw z at (cell 0 (omega arith)) in
      rw (e₀, cell 1 (omega arith), cell 2 (omega arith), cell 3 (omega arith), phase_back r.phase, flag-back r.choked)

  -- and a row at another place stays.
  pub row-put-before : (p : ℕ) → p + row_size ≤ at → row_in (sets w at (row_cells r)) p ≡ row_in w p
  unfolding row_in
  row-put-before p h =
      let cell = cell_before (row_cells r) w at in
      rw (cell p (omega arith), cell (p + 1) (omega arith), cell (p + 2) (omega arith), cell (p + 3) (omega arith))

  pub row-put-behind : (p : ℕ) → at + row_size ≤ p → row_in (sets w at (row_cells r)) p ≡ row_in w p
  unfolding row_in
  row-put-behind p h =
      let cell = cell_behind (row_cells r) w at in
      rw (cell p (omega arith), cell (p + 1) (omega arith), cell (p + 2) (omega arith), cell (p + 3) (omega arith))

-- ---- the rows

rows_from-length : (k : ℕ) (w : List ℕ) (at : ℕ) → length (rows_from k w at) ≡ k
unfolding rows_from
rows_from-length zero w at = refl
rows_from-length (suc k) w at = ap suc (rows_from-length k w (at + row_size))

rows_from-at : (k : ℕ) (w : List ℕ) (at i : ℕ) → i < k → get_or (rows_from k w at) i free_row ≡ row_in w (at + row_size * i)
unfolding rows_from
rows_from-at zero w at i h = absurd (omega arith)
rows_from-at (suc k) w at zero h = let e : at + row_size * 0 ≡ at = omega arith in rw e
rows_from-at (suc k) w at (suc i) h =
    let e : at + row_size * suc i ≡ at + row_size + row_size * i = omega arith in
    rw e (rows_from-at k w (at + row_size) i (omega arith))

-- There are 16,
pub rows_length : (w : List ℕ) → length (rows_in w) ≡ row_count
unfolding rows_in
rows_length w = rows_from-length row_count w rows_place

-- each at its place.
pub rows_at : (w : List ℕ) (i : ℕ) → i < row_count → get_or (rows_in w) i free_row ≡ row_in w (row_place i)
unfolding rows_in
rows_at w i h = rows_from-at row_count w rows_place i h

-- ---- a row put at its place

module _ (w : List ℕ) (i : ℕ) (r : Row) where
  -- Past the table,
  pub put-row-out : row_count ≤ i → put_row w i r ≡ w
  unfolding put_row
  put-row-out h = rw (le-leb row_count i h)

  -- where it is that row already,
  pub put-row-kept : i < row_count → same (row_cells r) (row_cells (row_at (rows_in w) i)) ≡ true → put_row w i r ≡ w
  unfolding put_row
  put-row-kept h e = rw (lt-leb row_count i h, e)

  -- and where it is another.
  pub put-row-in : i < row_count → same (row_cells r) (row_cells (row_at (rows_in w) i)) ≡ false → put_row w i r ≡ sets w (row_place i) (row_cells r)
  unfolding put_row
  put-row-in h e = rw (lt-leb row_count i h, e)

  -- The words with row i put.
  abbrev put : List ℕ
  put = sets w (row_place i) (row_cells r)

  module _ (room : state_words ≤ length w) (h : i < row_count) where
    put_same : get_or (rows_in put) i free_row ≡ get_or (set (rows_in w) i r) i free_row
    put_same =
        let n : i < length (rows_in w) = rw (rows_length w) h in
        rows_at put i h ∙ row-put-same w (row_place i) r (omega arith) ∙ sym (get_or-set_same (rows_in w) i r free_row n)

    put_other : (j : ℕ) → j < row_count → j ≢ i → row_in put (row_place j) ≡ row_in w (row_place j) → get_or (rows_in put) j free_row ≡ get_or (set (rows_in w) i r) j free_row
    put_other j l d e = rows_at put j l ∙ e ∙ sym (rows_at w j l) ∙ sym (get_or-set_other (rows_in w) i j r free_row d)

    put-at : (j : ℕ) → j < row_count → get_or (rows_in put) j free_row ≡ get_or (set (rows_in w) i r) j free_row
    put-at j l = elim (ℕ_discrete j i) [
      | yes e ↦ rw e put_same
      | no d ↦ put_other j l d (elim (dec_lt i j) [
        | yes b ↦ row-put-behind w (row_place i) r (row_place j) (omega arith)
        | no b ↦ row-put-before w (row_place i) r (row_place j) (omega (arith, d))
      ])
    ]

    put-rows : rows_in put ≡ set (rows_in w) i r
    put-rows =
        let n : length (rows_in put) ≡ row_count = rows_length put in
        ext_get_or free_row (rows_in put) (set (rows_in w) i r) (n ∙ sym (rows_length w) ∙ sym (length-set (rows_in w) i r)) (λ j l. put-at j (rw n at l))

-- The order is read from words before the rows.
order-put : (w : List ℕ) (at : ℕ) (r : Row) → rows_place ≤ at → order_in (sets w at (row_cells r)) ≡ order_in w
unfolding order_in has_order
order-put w at r h =
    let cell : (k : ℕ) → k < rows_place → get_or (sets w at (row_cells r)) k 0 ≡ get_or w k 0 = λ k b. cell_before (row_cells r) w at k (omega arith) in
    rw (cell 0 (omega arith), cell 1 (omega arith), cell 2 (omega arith), cell 3 (omega arith), cell 4 (omega arith), cell 5 (omega arith), cell 6 (omega arith), cell 7 (omega arith), cell 8 (omega arith), cell 9 (omega arith), cell method_place (omega arith))

-- ---- a row put into a room that holds the state

module _ (w : List ℕ) (i : ℕ) (r : Row) where
  -- By the three cases.
  by-case : (P : List ℕ → Type 0) → (row_count ≤ i → P w) → (r ≡ row_at (rows_in w) i → P w) → (i < row_count → P (sets w (row_place i) (row_cells r))) → P (put_row w i r)
  by-case P p k q = elim (dec_lt i row_count) [
    | yes h ↦ go h (same (row_cells r) (row_cells (row_at (rows_in w) i))) refl
    | no h ↦ rw (put-row-out w i r (omega arith)) (p (omega arith))
  ]
    where
      go : i < row_count → (b : Bool) → same (row_cells r) (row_cells (row_at (rows_in w) i)) ≡ b → P (put_row w i r)
      go h true e = rw (put-row-kept w i r h e) (k (cells_same r (row_at (rows_in w) i) (same_is (row_cells r) (row_cells (row_at (rows_in w) i)) e)))
      go h false e = rw (put-row-in w i r h e) (q h)

  -- The rows are those with that row at its place,
  pub put-row-rows : state_words ≤ length w → rows_in (put_row w i r) ≡ set (rows_in w) i r
  unfolding row_at
  put-row-rows room =
      by-case (λ v. rows_in v ≡ set (rows_in w) i r) (λ h. sym (set_out (rows_in w) i r (rw (rows_length w) h)))
      (λ e. sym (ap (set (rows_in w) i) e ∙ set-get_or (rows_in w) i free_row)) (put-rows w i r room)

  -- the order stays (in any room),
  pub put-row-order : order_in (put_row w i r) ≡ order_in w
  put-row-order = by-case (λ v. order_in v ≡ order_in w) (λ h. refl) (λ e. refl) (λ h. order-put w (row_place i) r (omega arith))

  -- and so does the room's length.
  pub put-row-length : length (put_row w i r) ≡ length w
  put-row-length = by-case (λ v. length v ≡ length w) (λ h. refl) (λ e. refl) (λ h. length-sets w (row_place i) (row_cells r))

-- A row put back changes nothing.
pub put_row_same : (w : List ℕ) (i : ℕ) → put_row w i (row_at (rows_in w) i) ≡ w
put_row_same w i = elim (dec_lt i row_count) [
  | yes h ↦ put-row-kept w i (row_at (rows_in w) i) h (same_refl (row_cells (row_at (rows_in w) i)))
  | no h ↦ put-row-out w i (row_at (rows_in w) i) (omega arith)
]

-- ---- as the code has them

-- Two rows compared.
phases_compared : (p q : Phase) → sameb Phase-is p q ≡ eqb (phase_word p) (phase_word q)
phases_compared Free Free = refl
phases_compared Free Calling = refl
phases_compared Free Open = refl
phases_compared Calling Free = refl
phases_compared Calling Calling = refl
phases_compared Calling Open = refl
phases_compared Open Free = refl
phases_compared Open Calling = refl
phases_compared Open Open = refl

marks_compared : (a b : Bool) → beq a b ≡ (eqb (flag a) (flag b) && true)
marks_compared true true = refl
marks_compared true false = refl
marks_compared false true = refl
marks_compared false false = refl

rows_compared : (r s : Row) → (sameb Phase-is r.phase s.phase && (eqb r.id s.id && (eqb r.peer s.peer && beq r.choked s.choked))) ≡ same (row_cells r) (row_cells s)
unfolding same
rows_compared r s = rw (phases_compared r.phase s.phase, marks_compared r.choked s.choked)

module _ (w : List ℕ) where
  pub row-at-in : (i : ℕ) {r : Row} → i < row_count → r ≡ row_in w (row_place i) → r ≡ row_at (rows_in w) i
  unfolding row_at
  row-at-in i h e = e ∙ sym (rows_at w i h)

  pub row-at-out : (i : ℕ) {r : Row} → row_count ≤ i → r ≡ free_row → r ≡ row_at (rows_in w) i
  unfolding row_at
  row-at-out i h e = e ∙ sym (get_or-eq_default (rows_in w) free_row (rw (rows_length w) h))

-- The peer's channel in a row of words of 32 bits.
pub peer-fits : (w : List ℕ) → ((i : ℕ) → get_or w i 0 < 2 ^ 32) → (i : ℕ) → (row_at (rows_in w) i).peer < 2 ^ 32
unfolding row_at row_in
peer-fits w f i = elim (dec_lt i row_count) [
  | yes h ↦ rw (rows_at w i h) (f (row_place i + 2))
  | no h ↦ let past : length (rows_in w) ≤ i = rw (rows_length w) (omega arith) in rw (get_or-eq_default (rows_in w) free_row past) (omega arith)
]

-- Putting a row, by the row that was read.
module _ (w : List ℕ) (i : ℕ) (r : Row) {old : Row} {b : Bool} (h : i < row_count) (oe : old ≡ row_in w (row_place i))
    (be : b ≡ not (sameb Phase-is r.phase old.phase && (eqb r.id old.id && (eqb r.peer old.peer && beq r.choked old.choked)))) where
  differs : b ≡ not (same (row_cells r) (row_cells (row_at (rows_in w) i)))
  differs = be ∙ ap not (rows_compared r old ∙ ap (λ (s : Row). same (row_cells r) (row_cells s)) (row-at-in w i h oe))

  pub put-kept : b ≡ false → w ≡ put_row w i r
  put-kept e = sym (put-row-kept w i r h (not-false _ (sym differs ∙ e)))

  pub put-stored : b ≡ true → {v : List ℕ} → v ≡ sets w (row_place i) (row_cells r) → v ≡ put_row w i r
  put-stored e p = p ∙ sym (put-row-in w i r h (not-true _ (sym differs ∙ e)))
