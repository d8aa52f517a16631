-- The numbers that the channel table can give, and what the number 0 says. Assumes nothing.
use Prim.Native.Nat.{ℕ}
use native.Mathlib.Omega.{arith}
use mathlib.Core.Path.{◌≡◌, refl}
use mathlib.Core.Logic.{◌≢◌, ◌⊎◌, inl, inr}
use mathlib.Core.Bool.{Bool, true, false, not}
use mathlib.Core.List.{List, [], ◌∷◌}
use borrow.Author.Tests.{eq-eqb, eqb-true}
use lib.Dec.{leb, ltb, eqb}
use Rattle.base.specs.Pick.{pick}
use Rattle.base.specs.Among.{among, OneOf}
use Rattle.base.proofs.AmongLaws.{all_among, pick-one, one_of_more}
use Rattle.table.specs.Rows.{row_count, is_open, lowest_free, row_of, open_row_of, row_at}
use Rattle.table.specs.Answers.{open_answer, messages_answer, row_answer, handshake_answer, write_answer}
use Rattle.table.specs.declared.rows.Row.{Row}

pub open-one : (rs : List Row) (id : ℕ) → OneOf (0 ∷ 6 ∷ 14 ∷ []) (open_answer rs id)
unfolding open_answer among
open-one rs id =
    let ms : List ℕ = 0 ∷ 6 ∷ 14 ∷ [] in
    pick-one ms (eqb id 0) 14 _ refl (pick-one ms (ltb (row_of rs id) row_count) 14 _ refl (pick-one ms (ltb (lowest_free rs) row_count) 0 6 refl refl))

pub messages-one : (rs : List Row) (to : ℕ) (keepalive : Bool) → OneOf (0 ∷ 3 ∷ 5 ∷ []) (messages_answer rs to keepalive)
unfolding messages_answer among
messages-one rs to keepalive =
    let ms : List ℕ = 0 ∷ 3 ∷ 5 ∷ [] in
    pick-one ms (eqb to 0) 5 _ refl
    (pick-one ms (leb row_count (row_of rs to)) 5 _ refl
    (pick-one ms keepalive 0 _ refl (pick-one ms (is_open (row_at rs (row_of rs to)).phase) 0 3 refl refl)))

row_one : (r : Row) (a : ℕ) (ours : Bool) → OneOf (0 ∷ 3 ∷ 4 ∷ []) (row_answer r a ours)
unfolding row_answer among
row_one r a ours =
    let ms : List ℕ = 0 ∷ 3 ∷ 4 ∷ [] in
    let options = pick-one ms ours 0 4 refl refl in
    pick-one ms (is_open r.phase) _ _ (pick-one ms (eqb a 0) 0 _ refl (pick-one ms (not (eqb a r.peer)) 3 _ refl options)) (pick-one ms (eqb a 0) 3 _ refl options)

pub handshake-one : (rs : List Row) (to a : ℕ) (ours : Bool) (id : ℕ) → OneOf (0 ∷ 3 ∷ 4 ∷ 5 ∷ 6 ∷ 14 ∷ []) (handshake_answer rs to a ours id)
unfolding handshake_answer among all_among
handshake-one rs to a ours id =
    let ms : List ℕ = 0 ∷ 3 ∷ 4 ∷ 5 ∷ 6 ∷ 14 ∷ [] in
    pick-one ms (eqb to 0) _ _
    (pick-one ms (not ours) 4 _ refl (one_of_more (0 ∷ 6 ∷ 14 ∷ []) ms (open_answer rs id) refl (open-one rs id)))
    (pick-one ms (leb row_count (row_of rs to)) 5 _ refl (one_of_more (0 ∷ 3 ∷ 4 ∷ []) ms (row_answer (row_at rs (row_of rs to)) a ours) refl (row_one (row_at rs (row_of rs to)) a ours)))

pub write-one : (rs : List Row) (id : ℕ) → OneOf (0 ∷ 3 ∷ []) (write_answer rs id)
unfolding write_answer among
write-one rs id = pick-one (0 ∷ 3 ∷ []) (ltb (open_row_of rs id) row_count) 0 3 refl refl

-- ---- what the number 0 says

-- A channel is opened under another ID than 0.
pub open_some : (rs : List Row) (id : ℕ) → open_answer rs id ≡ 0 → id ≢ 0
unfolding open_answer
open_some rs id z e = omega (arith, rw (eq-eqb id 0 e) at z)

-- A HANDSHAKE that is taken has the options of the order, or closes.
pub handshake_taken_lem : (rs : List Row) (to a : ℕ) (ours : Bool) (id : ℕ) → handshake_answer rs to a ours id ≡ 0 → (ours ≡ true) ⊎ (a ≡ 0)
unfolding handshake_answer row_answer
handshake_taken_lem rs to a true id z = inl refl
handshake_taken_lem rs to a false id z =
    let r = row_at rs (row_of rs to) in
    by (eqb to 0) (leb row_count (row_of rs to)) (is_open r.phase) (eqb a 0) refl (not (eqb a r.peer)) z
  where
    by : (t l o c : Bool) → eqb a 0 ≡ c → (p : Bool)
        → pick t (pick (not false) 4 (open_answer rs id)) (pick l 5 (pick o (pick c 0 (pick p 3 (pick false 0 4))) (pick c 3 (pick false 0 4)))) ≡ 0
        → (false ≡ true) ⊎ (a ≡ 0)
    by t l o true e p z = inr (eqb-true a 0 e)
    by true l o false e p z = absurd (omega arith)
    by false true o false e p z = absurd (omega arith)
    by false false true false e true z = absurd (omega arith)
    by false false true false e false z = absurd (omega arith)
    by false false false false e p z = absurd (omega arith)

-- Under an order's own options a channel is opened by a HANDSHAKE to 0 under another ID than 0.
pub handshake-opened : (rs : List Row) (to a : ℕ) (ours : Bool) (id : ℕ) → to ≡ 0 → handshake_answer rs to a ours id ≡ 0 → id ≢ 0
unfolding handshake_answer
handshake-opened rs to a true id e z = open_some rs id (rw (eq-eqb to 0 e) at z)
handshake-opened rs to a false id e z = absurd (omega (arith, rw (eq-eqb to 0 e) at z))
