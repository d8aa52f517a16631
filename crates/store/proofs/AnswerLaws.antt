-- What an answer of 0 says. Assumes nothing.
use mathlib.Core.Path.{◌≡◌, refl}
use mathlib.Core.Logic.{◌≢◌}
use mathlib.Core.Bool.{Bool, true, false, true≢false, ◌&&◌, not}
use Prim.Native.Nat.{ℕ, zero, suc, ◌≤◌, ◌<◌}
use native.Mathlib.Omega.{arith}
use borrow.Author.Tests.{le-ltb, ne_eqb, eqb-true, eqb-false, leb-true, leb-false, ltb-false}
use lib.Dec.{leb, ltb, eqb}
use Rattle.base.specs.Pick.{pick}
use Rattle.tree.specs.Pack.{chunk_size, max_length, size}
use Rattle.verdict.specs.Rooms.{count_of}
use Rattle.store.specs.Answers.{earlier, length_answer, map_words, hash_words, trusted_words, room_answer, chunk_answer}

-- ---- a chain of tests

-- a number that refuses is not 0, so each test before it failed
pub passed : (b : Bool) (n rest : ℕ) → pick b (suc n) rest ≡ 0 → (b ≡ false) × (rest ≡ 0)
passed true n rest e = absurd (omega arith)
passed false n rest e = (refl, e)

pub both_zero : (m n : ℕ) → earlier m n ≡ 0 → (m ≡ 0) × (n ≡ 0)
both_zero zero n e = (refl, e)
both_zero (suc m) n e = absurd (omega arith)

pub earlier-zero : (m n : ℕ) → m ≡ 0 → earlier m n ≡ n
earlier-zero m n e = rw e

pub earlier_not : (m n : ℕ) → m ≢ 0 → m ≡ earlier m n
earlier_not zero n d = absurd (d refl)
earlier_not (suc m) n d = refl

-- ---- the order's length

-- not 12: the length is within the limit
pub length_facts : (L : ℕ) → length_answer L ≡ 0 → (0 < L) × (L ≤ max_length)
unfolding length_answer
length_facts L e =
    let p = passed (eqb L 0) 11 _ e in
    let q = passed (ltb max_length L) 11 0 p.1 in
    (positive L (eqb-false L 0 p.0), ltb-false max_length L q.0)
  where
    positive : (n : ℕ) → (n ≡ 0 → ⊥) → 0 < n
    positive n d = omega (arith, d)

pub length-right : (L : ℕ) → L ≢ 0 → L ≤ max_length → 0 ≡ length_answer L
unfolding length_answer
length-right L d l = rw (ne_eqb L 0 d, le-ltb max_length L l)

-- ---- what an answer of 0 says

all_true : (p q r s : Bool) → pick {A = ℕ} (p && q && r && s) 0 11 ≡ 0 → (p ≡ true) × (q ≡ true) × (r ≡ true) × (s ≡ true)
all_true true true true true e = (refl, refl, refl, refl)
all_true true true true false e = absurd (omega arith)
all_true true true false s e = absurd (omega arith)
all_true true false r s e = absurd (omega arith)
all_true false q r s e = absurd (omega arith)

pub room_facts : (L b m h t : ℕ) → room_answer L b m h t ≡ 0
    → (L ≤ b) × (map_words (count_of L) ≤ m) × (hash_words (count_of L) ≤ h) × (trusted_words (count_of L) ≤ t)
unfolding room_answer
room_facts L b m h t e =
    let p = all_true (leb L b) (leb (map_words (count_of L)) m) (leb (hash_words (count_of L)) h) (leb (trusted_words (count_of L)) t) e in (
      leb-true L b p.0,
      leb-true (map_words (count_of L)) m p.1,
      leb-true (hash_words (count_of L)) h p.2,
      leb-true (trusted_words (count_of L)) t p.3,
    )

pub chunk_facts : (L c n : ℕ) → chunk_answer L c n ≡ 0 → (c < count_of L) × (n ≡ size chunk_size L c)
unfolding chunk_answer
chunk_facts L c n e =
    let p = passed (leb (count_of L) c) 6 _ e in
    let q = passed (not (eqb n (size chunk_size L c))) 7 0 p.1 in
    (leb-false (count_of L) c p.0, eqb-true n (size chunk_size L c) (un_not (eqb n (size chunk_size L c)) q.0))
  where
    un_not : (x : Bool) → not x ≡ false → x ≡ true
    un_not true f = refl
    un_not false f = absurd (true≢false f)
