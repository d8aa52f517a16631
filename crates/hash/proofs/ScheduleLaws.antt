-- The schedule sixteen words at a time: each row follows from the row before it alone. Assumes nothing.
use Rattle.std.proofs.Common.{◌≡◌, ℕ, zero, suc, ◌+◌, ◌-◌, ◌≤◌, ◌<◌, List, [], ◌∷◌, ◌++◌, length, get_or, take, sym, refl, ap, ◌∙◌, append_assoc, le_refl, suc-add, zero-add, arith, length-append, length-drop, take-append-drop, take-take, get_or-append-add}
use mathlib.Core.Path.{subst⁻¹}
use lib.Seq.{take-length, take-append-le}
use Rattle.hash.specs.Block.{next, extended, schedule}
use Rattle.hash.specs.Rows.{next_sixteen, slid}
use Rattle.hash.proofs.Cells.{cells, cells_is}

-- The word that follows a schedule so far.
abbrev following : List ℕ → ℕ
following w = next (get_or w (length w - 2) 0) (get_or w (length w - 7) 0) (get_or w (length w - 15) 0) (get_or w (length w - 16) 0)

-- An element counted from the end of a list.
back : (p w : List ℕ) (i : ℕ) → i ≤ length w → get_or (p ++ w) (length (p ++ w) - i) 0 ≡ get_or w (length w - i) 0
back p w i h =
    let e : length (p ++ w) - i ≡ length p + (length w - i) = omega (arith, length-append p w) in
    ap (λ (n : ℕ). get_or (p ++ w) n 0) e ∙ get_or-append-add p w (length w - i) 0

-- Words before the last sixteen are not looked at.
extended-past : (n : ℕ) (p w : List ℕ) → 16 ≤ length w → extended n (p ++ w) ≡ p ++ extended n w
unfolding extended
extended-past zero p w h = refl
extended-past (suc n) p w h =
    let l : 16 ≤ length (w ++ (following w ∷ [])) = simp length-append (omega arith) in
    rw (back p w 2 (omega arith), back p w 7 (omega arith), back p w 15 (omega arith), back p w 16 (omega arith), append_assoc p w (following w ∷ []))
    (extended-past n p (w ++ (following w ∷ [])) l)

extended-add : (m n : ℕ) (w : List ℕ) → extended (m + n) w ≡ extended n (extended m w)
unfolding extended
extended-add zero n w = rw zero-add
extended-add (suc m) n w = rw suc-add (extended-add m n (w ++ (following w ∷ [])))

extended-length : (n : ℕ) (w : List ℕ) → length (extended n w) ≡ n + length w
unfolding extended
extended-length zero w = rw zero-add
extended-length (suc n) w = extended-length n (w ++ (following w ∷ [])) ∙ simp length-append (omega arith)

-- The words so far stay in front.
extended-keeps : (n : ℕ) (w : List ℕ) → take (length w) (extended n w) ≡ w
unfolding extended
extended-keeps zero w = take-length w
extended-keeps (suc n) w =
    let v : List ℕ = w ++ (following w ∷ []) in
    let l : length w ≤ length v = simp length-append (omega arith) in
    let e : take (length w) (take (length v) (extended n v)) ≡ take (length w) v = ap (take (length w)) (extended-keeps n v) in
    rw (take-take (length w) (length v) (extended n v) l) at e ∙ take-append-le (length w) w (following w ∷ []) (le_refl (length w)) ∙ take-length w

pub next_sixteen_length : (w : List ℕ) → length w ≡ 16 → length (next_sixteen w) ≡ 16
unfolding next_sixteen
next_sixteen_length w e = rw (length-drop 16 (extended 16 w), extended-length 16 w, e)

-- A row, and the schedule that goes on from the next.
row : (n : ℕ) (w : List ℕ) → length w ≡ 16 → extended (16 + n) w ≡ w ++ extended n (next_sixteen w)
unfolding next_sixteen
row n w e =
    let front : take 16 (extended 16 w) ≡ w = rw e at (extended-keeps 16 w) in
    let split : extended 16 w ≡ w ++ next_sixteen w = sym (take-append-drop 16 (extended 16 w)) ∙ ap (λ (l : List ℕ). l ++ next_sixteen w) front in
    let long : 16 ≤ length (next_sixteen w) = omega (arith, next_sixteen_length w e) in
    extended-add 16 n w ∙ ap (extended n) split ∙ extended-past n w (next_sixteen w) long

-- Row number i of a schedule.
abbrev pub row_of : List ℕ → ℕ → List ℕ
row_of w zero = w
row_of w (suc i) = next_sixteen (row_of w i)

pub row_length : (w : List ℕ) (i : ℕ) → length w ≡ 16 → length (row_of w i) ≡ 16
row_length w zero e = e
row_length w (suc i) e = next_sixteen_length (row_of w i) (row_length w i e)

last_row : (w : List ℕ) → extended 0 w ≡ w
unfolding extended
last_row w = refl

-- The four rows of a schedule.
pub schedule_rows : (w : List ℕ) → length w ≡ 16 → schedule w ≡ row_of w 0 ++ (row_of w 1 ++ (row_of w 2 ++ row_of w 3))
unfolding schedule
schedule_rows w e =
    row 32 w e
    ∙ ap (λ (l : List ℕ). w ++ l)
    (row 16 (row_of w 1) (row_length w 1 e)
    ∙ ap (λ (l : List ℕ). row_of w 1 ++ l) (row 0 (row_of w 2) (row_length w 2 e) ∙ ap (λ (l : List ℕ). row_of w 2 ++ l) (last_row (row_of w 3))))

-- One word on: each word moves up by one place, and the last is new.
pub slid_law : (w u : List ℕ) → length u ≡ 16 → ((i : ℕ) → i < 15 → get_or u i 0 ≡ get_or w (i + 1) 0)
    → get_or u 15 0 ≡ next (get_or w 14 0) (get_or w 9 0) (get_or w 1 0) (get_or w 0 0) → u ≡ slid w
unfolding slid
slid_law w u l a e =
    cells_is 16 u l
    ∙ rw (a 0 (omega arith), a 1 (omega arith), a 2 (omega arith), a 3 (omega arith), a 4 (omega arith), a 5 (omega arith), a 6 (omega arith), a 7 (omega arith), a 8 (omega arith), a 9 (omega arith), a 10 (omega arith), a 11 (omega arith), a 12 (omega arith), a 13 (omega arith), a 14 (omega arith), e)

-- Sixteen times one word on.
pub slid_sixteen : (w : List ℕ) → length w ≡ 16
    → slid (slid (slid (slid (slid (slid (slid (slid (slid (slid (slid (slid (slid (slid (slid (slid w))))))))))))))) ≡ next_sixteen w
unfolding slid next_sixteen extended
slid_sixteen w l = subst⁻¹ (λ (u : List ℕ). next_sixteen (cells 16 0 w) ≡ next_sixteen u) (cells_is 16 w l) refl
