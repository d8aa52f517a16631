-- A block: four runs of sixteen rounds are the hash computation of its schedule. Assumes nothing.
use Rattle.std.proofs.Common.{◌≡◌, ℕ, zero, suc, ◌+◌, ◌<◌, ◌≤◌, List, [], ◌++◌, length, get_or, take, drop, sym, refl, ap, ◌∙◌, add-one, arith}
use Rattle.hash.specs.Word.{words}
use Rattle.hash.specs.Block.{rounds, schedule, sums, mixed, compressed}
use Rattle.hash.specs.Rows.{Advanced, constants, rows_of_k, summed_rounds, summed_runs, mixed_sums}
use Rattle.hash.proofs.BytesLaws.{words-pair}
use Rattle.hash.proofs.RoundLaws.{runs, four_runs, summed, summed-rounds}
use Rattle.hash.proofs.ScheduleLaws.{row_of, row_length, schedule_rows}

-- The four runs of a schedule whose rows follow each from the one before.
pub scheduled : (v w : List ℕ) → length w ≡ 16 → sums v (runs 4 v (row_of w)) ≡ mixed v (schedule w)
unfolding mixed
scheduled v w l = ap (sums v) (sym (rw (schedule_rows w l) (four_runs v (row_of w) (row_length w 0 l) (row_length w 1 l) (row_length w 2 l))))

rows_of-K : (i : ℕ) → i < 4 → get_or rows_of_k i [] ≡ constants i
rows_of-K zero h = refl
rows_of-K (suc zero) h = refl
rows_of-K (suc (suc zero)) h = refl
rows_of-K (suc (suc (suc zero))) h = refl
rows_of-K (suc (suc (suc (suc i)))) h = absurd (omega arith)

-- A turn of the loop over the rows of the constants, and its end.
pub advance-turn : (v w : List ℕ) (i : ℕ) (k : List (List ℕ)) {u x u' x' : List ℕ} → i < 3 → k ≡ rows_of_k
    → u ≡ runs i v (row_of w)
    → x ≡ row_of w i
    → Advanced (get_or k i []) u x u' x'
    → (u' ≡ runs (i + 1) v (row_of w)) × (x' ≡ row_of w (i + 1))
advance-turn v w i k h e f g a =
    (rw (add-one i) (a.variables ∙ rw (e, f, g, rows_of-K i (omega arith))), rw (add-one i) (a.schedule ∙ rw g))

pub advance_end : (v w : List ℕ) (i : ℕ) (k : List (List ℕ)) {u x u' r : List ℕ} → length w ≡ 16 → i ≤ 3 → 3 ≤ i → k ≡ rows_of_k
    → u ≡ runs i v (row_of w)
    → x ≡ row_of w i
    → u' ≡ rounds 16 u (get_or k 3 []) x
    → r ≡ sums v u'
    → r ≡ mixed v (schedule w)
advance_end v w i k {u} {x} l h m e f g a s =
    let three : i ≡ 3 = omega arith in
    let fu : u ≡ runs 3 v (row_of w) = rw three at f in
    let fx : x ≡ row_of w 3 = rw three at g in
    s ∙ ap (sums v) (a ∙ rw (e, fu, fx)) ∙ scheduled v w l

-- ---- a block whose sums are known

-- A turn of the loop over the rows, and its end.
pub mix-turn : (v : List ℕ) (s : List (List ℕ)) (i : ℕ) {u r : List ℕ}
    → u ≡ summed_runs i v (λ (n : ℕ). get_or s n [])
    → r ≡ summed_rounds u (get_or s i [])
    → r ≡ summed_runs (i + 1) v (λ (n : ℕ). get_or s n [])
mix-turn v s i e f = rw (add-one i) (f ∙ rw e)

pub mix_end : (v : List ℕ) (s : List (List ℕ)) (i : ℕ) {u r : List ℕ} → i ≤ 4 → 4 ≤ i
    → u ≡ summed_runs i v (λ (n : ℕ). get_or s n [])
    → r ≡ sums v u
    → r ≡ mixed_sums v s
unfolding mixed_sums
mix_end v s i {u} h k e f = let four : i ≡ 4 = omega arith in f ∙ ap (sums v) (rw four at e)

-- The sums of the constants and the words of a schedule, in four rows.
pub record Sums (w : List ℕ) (s : List (List ℕ)) : Type 0 where
  pub first : get_or s 0 [] ≡ summed (constants 0) (row_of w 0)
  pub second : get_or s 1 [] ≡ summed (constants 1) (row_of w 1)
  pub third : get_or s 2 [] ≡ summed (constants 2) (row_of w 2)
  pub fourth : get_or s 3 [] ≡ summed (constants 3) (row_of w 3)

run : (u w : List ℕ) (i : ℕ) → length (constants i) ≡ 16 → length w ≡ 16
    → summed_rounds u (summed (constants i) (row_of w i)) ≡ rounds 16 u (constants i) (row_of w i)
run u w i lk l = summed-rounds u (constants i) (row_of w i) lk (row_length w i l)

pub known-sums : (v w : List ℕ) (s : List (List ℕ)) → length w ≡ 16 → Sums w s → mixed_sums v s ≡ mixed v (schedule w)
unfolding mixed_sums
known-sums v w s l k =
    rw (k.first, k.second, k.third, k.fourth, run v w 0 refl l, run (runs 1 v (row_of w)) w 1 refl l, run (runs 2 v (row_of w)) w 2 refl l, run (runs 3 v (row_of w)) w 3 refl l)
    (scheduled v w l)

-- ---- a block at a place

pub block_law : (v b : List ℕ) (at : ℕ) {x y w r : List ℕ} → x ≡ words 8 (drop at b) → y ≡ words 8 (drop (at + 32) b) → w ≡ x ++ y
    → r ≡ mixed v (schedule w)
    → r ≡ compressed v (take 64 (drop at b))
unfolding compressed
block_law v b at e f g h = h ∙ ap (λ (u : List ℕ). mixed v (schedule u)) (rw (g, e, f) (words-pair b at))
