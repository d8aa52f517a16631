-- The order in the words of a state: read, and put anew. Assumes nothing.
use Prim.Native.Nat.{ℕ, zero, suc, ◌+◌, ◌*◌, ◌<◌, ◌≤◌}
use native.Mathlib.Nat.{zero-add}
use native.Mathlib.Omega.{arith}
use mathlib.Core.Path.{◌≡◌, refl, sym, subst, ◌∙◌}
use mathlib.Core.Bool.{Bool, true, false, true≢false, ◌&&◌}
use mathlib.Core.List.{List, [], ◌∷◌, ◌++◌, map}
use native.Mathlib.Decide.{ℕ_discrete}
use denote.Param.Members.{Mut}
use borrow.Rule.Slice.PartMut.{put_mid}
use Rattle.std.specs.Fn.{Called}
use Rattle.std.specs.List.{range_with_len}
use Rattle.std.specs.Array.{IsFromFnResult, IsFromFnResultFrom}
use Rattle.std.proofs.Common.{add-zero}
use Rattle.std.proofs.lemmas.List.{append_assoc, drop-drop}
use Rattle.std.proofs.lemmas.List.Edits.{sets-eq}
use Rattle.std.proofs.lemmas.List.FromFn.{fill_by_all}
use lib.Dec.{eqb}
use lib.ListN.{length, get_or, set, length-set, length-append, replicate}
use lib.Seq.{sets, length-sets}
use Rattle.base.specs.Pick.{pick}
use Rattle.bits.proofs.Promise.{clear_words, length-clear_words, clear_words_in, clear_words-before}
use Rattle.format.specs.Format.{is_method}
use Rattle.order.specs.declared.Order.{Order}
use Rattle.table.specs.Rows.{row_count, free_row}
use Rattle.table.specs.Words.{layout_version, state_words, method_place, rows_place, row_size, phase_of, row_in, rows_from, rows_in, no_order, has_order, order_in, order_words, fresh_words}
use Rattle.table.proofs.CellLaws.{cell_of}

-- What the calls of a closure gave, one at each number from i on, where it computes h.
module _ {F : Type 0} (g : Mut F (ℕ × Unit {0}) ℕ) (h : ℕ → ℕ) (f : F) (computes : (k b : ℕ) (q : F) → Called g f (k, tt) b q → (q ≡ f) × (b ≡ h k)) (ys : List ℕ) where
  calls_give : (n i : ℕ) (p : F) → p ≡ f → IsFromFnResultFrom g p ys i n → (k : ℕ) → i ≤ k → k < i + n → get_or ys k 0 ≡ h k
  calls_give zero i p e r k a b = absurd (omega arith)
  calls_give (suc n) i p e (q, y, el, call, rest) k a b =
      let t = computes i y q (subst (λ (x : F). Called g x (i, tt) y q) e call) in
      let more = calls_give n (i + 1) q t.0 rest k in
      elim (ℕ_discrete i k) [
        | yes s ↦ rw (← s) (el.1 0 ∙ t.1)
        | no s ↦ more (omega (arith, s)) (omega arith)
      ]

  pub array_computed : (n : ℕ) → IsFromFnResult g f ys n → ys ≡ map h (range_with_len 0 n)
  array_computed n r = fill_by_all h ys n 0 r.long (λ k l. calls_give n 0 f refl r.each k (omega arith) (omega arith))

-- ---- what holds of any words

either_order : (P : Order → Type 0) (b : Bool) (o p : Order) → (b ≡ true → P o) → P p → P (pick b o p)
either_order P true o p x y = x refl
either_order P false o p x y = y

both_second : (a b : Bool) → (a && b) ≡ true → b ≡ true
both_second true b e = e
both_second false b e = absurd (true≢false (sym e))

neither_second : (a : Bool) → (a && false) ≡ false
neither_second true = refl
neither_second false = refl

module _ (w : List ℕ) where
  -- The root has eight words,
  pub root-eight : length (order_in w).root.words ≡ 8
  unfolding order_in
  root-eight = either_order (λ o. length o.root.words ≡ 8) (has_order w) _ no_order (λ e. refl) refl

  -- the method is one that a paper gives,
  pub order-method : is_method (order_in w).method ≡ true
  unfolding order_in has_order is_method
  order-method = either_order (λ o. is_method o.method ≡ true) (has_order w) _ no_order (both_second (eqb (get_or w 0 0) layout_version) (is_method (get_or w method_place 0))) refl

  -- and where the words have another, there is no order.
  pub unknown-method : is_method (get_or w method_place 0) ≡ false → order_in w ≡ no_order
  unfolding order_in has_order
  unknown-method e = rw (e, neither_second (eqb (get_or w 0 0) layout_version))

-- ---- a new order

-- Rows whose words are all 0 are free.
rows_free : (k : ℕ) (w : List ℕ) (at : ℕ) → ((i : ℕ) → at ≤ i → i < at + row_size * k → get_or w i 0 ≡ 0) → rows_from k w at ≡ replicate k free_row
unfolding rows_from row_in phase_of
rows_free zero w at f = refl
rows_free (suc k) w at f =
    let t = rows_free k w (at + row_size) (λ i h l. f i (omega arith) (omega arith)) in
    rw (t, f at (omega arith) (omega arith), f (at + 1) (omega arith) (omega arith), f (at + 2) (omega arith) (omega arith), f (at + 3) (omega arith) (omega arith))

-- a list of eight, written out
pub eight_cells : (w : List ℕ) → length w ≡ 8 → map (λ k. get_or w k 0) (range_with_len 0 8) ≡ w
eight_cells w h = sym (fill_by_all (λ k. get_or w k 0) w 8 0 h (λ k l. refl))

-- a list written over a part of its length, and another behind it
put_mid-sets : (a k : ℕ) (l w : List ℕ) → length w ≡ k → a + k ≤ length l → put_mid a k l w ≡ sets l a w
put_mid-sets a k l w e h = rw (sets-eq w l a (omega (arith, e)), drop-drop, append_assoc, e)

sets_twice : (v w l : List ℕ) (at : ℕ) → sets l at (v ++ w) ≡ sets (sets l at v) (at + length v) w
sets_twice [] w l at = rw add-zero
sets_twice (x ∷ v) w l at = let e : at + suc (length v) ≡ suc at + length v = omega arith in rw e (sets_twice v w (set l at x) (suc at))

-- the stores of an order
pub order-stored : (l w v : List ℕ) (n m : ℕ) → rows_place ≤ length l → length w ≡ 8 → v ≡ w
    → set (set (put_mid 1 8 (set l 0 layout_version) v) 9 n) method_place m ≡ sets l 0 (layout_version ∷ w ++ n ∷ m ∷ [])
order-stored l w v n m r h e =
    let p = put_mid-sets 1 8 (set l 0 layout_version) w h (rw (length-set l 0 layout_version) (omega arith)) in
    let q = sets_twice w (n ∷ m ∷ []) (set l 0 layout_version) 1 in
    rw (e, p, q, h)

-- the words of an order, behind the version
order-back : (ws : List ℕ) (n m : ℕ) (w : List ℕ) → length ws ≡ 8 → is_method m ≡ true
    → ((k : ℕ) → k < rows_place → get_or w k 0 ≡ get_or (layout_version ∷ ws ++ n ∷ m ∷ []) k 0)
    → order_in w ≡ record { root = record { words = ws }; length = n; method = m }
unfolding order_in has_order
order-back ws n m w h k =
    subst (λ (u : List ℕ). ((k : ℕ) → k < rows_place → get_or w k 0 ≡ get_or (layout_version ∷ u ++ n ∷ m ∷ []) k 0) → order_in w ≡ record { root = record { words = u }; length = n; method = m })
    (eight_cells ws h)
    (λ f. rw (f 0 (omega arith), f 1 (omega arith), f 2 (omega arith), f 3 (omega arith), f 4 (omega arith), f 5 (omega arith), f 6 (omega arith), f 7 (omega arith), f 8 (omega arith), f 9 (omega arith), f method_place (omega arith), k))

module _ (w : List ℕ) (o : Order) where
  -- A new order is the order, in a room that holds the state, where a paper gives its method,
  pub fresh-order : state_words ≤ length w → length o.root.words ≡ 8 → is_method o.method ≡ true → order_in (fresh_words w o) ≡ o
  unfolding fresh_words
  fresh-order room e k = order-back o.root.words o.length o.method (fresh_words w o) e k cells
    where
      long : length (order_words o) ≡ rows_place
      long = omega (arith, e, length-append o.root.words (o.length ∷ o.method ∷ []))

      cells : (k : ℕ) → k < rows_place → get_or (fresh_words w o) k 0 ≡ get_or (order_words o) k 0
      cells k l = clear_words-before (sets w 0 (order_words o)) rows_place state_words k l ∙ rw (zero-add k) at (cell_of (order_words o) w 0 k (rw long l) (rw long (omega arith)))

  -- the rows are free,
  pub fresh-rows : rows_in (fresh_words w o) ≡ replicate row_count free_row
  unfolding rows_in fresh_words
  fresh-rows = rows_free row_count (fresh_words w o) rows_place (λ i h l. clear_words_in (sets w 0 (order_words o)) rows_place state_words i h l)

  -- and the room stays as long as it is.
  pub fresh-length : length (fresh_words w o) ≡ length w
  unfolding fresh_words
  fresh-length = length-clear_words (sets w 0 (order_words o)) rows_place state_words ∙ length-sets w 0 (order_words o)

-- As the code has it.
pub fresh-put : (w : List ℕ) (o : Order) {u v : List ℕ} → u ≡ sets w 0 (order_words o) → v ≡ clear_words u rows_place state_words → v ≡ fresh_words w o
unfolding fresh_words
fresh-put w o e f = rw (f, e)
