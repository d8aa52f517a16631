-- Blocks one after another, and the padding that ends a message. Assumes nothing.
use Rattle.std.proofs.Common.{◌≡◌, ℕ, zero, suc, ◌+◌, ◌-◌, ◌*◌, ◌/◌, ◌%◌, ◌^◌, ◌<◌, ◌≤◌, List, ◌∷◌, ◌++◌, length, take, drop, set, replicate, sym, refl, ap, ◌∙◌, subst, append_assoc, le_refl, add-zero, add-suc, mul_comm, add-one, arith, length-append, length-drop, take-append-drop, length-take-le, take_all, take-take, take_at, drop_at}
use native.Mathlib.Nat.{sub-zero, zero-sub, suc-sub-suc}
use lib.ListN.{length-replicate, replicate-append-replicate}
use lib.Seq.{sets, sets-eq, set_at, take-append-le, drop-append-le, drop-append-add}
use Rattle.hash.specs.Word.{be}
use Rattle.hash.specs.Block.{compressed}
use Rattle.hash.specs.Message.{gap, padded, block, after, finished}

-- ---- blocks

-- A part of a slice up to its end.
pub rest_is : (k : ℕ) (s : List ℕ) → take (length s - k) (drop k s) ≡ drop k s
rest_is k s = take_all (length s - k) (drop k s) (rw (length-drop k s) (le_refl (length s - k)))

pub after_none : (v m : List ℕ) → v ≡ after v 0 m
unfolding after
after_none v m = refl

pub after_turn : (v : List ℕ) (i : ℕ) (m : List ℕ) {u r : List ℕ} → u ≡ after v i m → r ≡ compressed u (block i m) → r ≡ after v (i + 1) m
unfolding after
after_turn v i m e f = rw (add-one i, ← e) f

pub after_end : (v : List ℕ) (i n : ℕ) (m : List ℕ) {u : List ℕ} → i ≤ n → n ≤ i → u ≡ after v i m → u ≡ after v n m
after_end v i n m {u} h k e = let same : i ≡ n = omega arith in subst (λ (j : ℕ). u ≡ after v j m) same e

-- The whole blocks of a part of 64 bytes.
pub part_law : (v b : List ℕ) (at : ℕ) {r : List ℕ} → at + 64 ≤ length b
    → r ≡ after v (length (take (at + 64 - at) (drop at b)) / 64) (take (at + 64 - at) (drop at b))
    → r ≡ compressed v (take 64 (drop at b))
unfolding after
part_law v b at h e =
    let k : at + 64 - at ≡ 64 = omega arith in
    let l : length (take 64 (drop at b)) ≡ 64 = length-take-le 64 (drop at b) (rw (length-drop at b) (omega arith)) in
    e ∙ rw (k, l) (ap (compressed v) (take-take 64 64 (drop at b) (le_refl 64)))

-- n whole blocks are the message's, whatever follows it
after_front : (v : List ℕ) (n : ℕ) (m x : List ℕ) → 64 * n ≤ length m → after v n (m ++ x) ≡ after v n m
unfolding after
after_front v zero m x h = refl
after_front v (suc n) m x h =
    let a : 64 * n ≤ length m = omega arith in
    let b : 64 ≤ length (drop (64 * n) m) = simp length-drop (omega arith) in
    rw (after_front v n m x a, drop-append-le (64 * n) m x a, take-append-le 64 (drop (64 * n) m) x b)

after-take : (v : List ℕ) (n : ℕ) (m : List ℕ) → 64 * n ≤ length m → after v n m ≡ after v n (take (64 * n) m)
after-take v n m h =
    let e : take (64 * n) m ++ drop (64 * n) m ≡ m = take-append-drop (64 * n) m in
    let l : 64 * n ≤ length (take (64 * n) m) = rw (length-take-le (64 * n) m h) (omega arith) in
    ap (after v n) (sym e) ∙ after_front v n (take (64 * n) m) (drop (64 * n) m) l

pub after-append : (v : List ℕ) (n k : ℕ) (m x : List ℕ) → length m ≡ 64 * n → after v (n + k) (m ++ x) ≡ after (after v n m) k x
unfolding after
after-append v n zero m x e = rw add-zero (after_front v n m x (omega arith))
after-append v n (suc k) m x e =
    let p : 64 * (n + k) ≡ length m + 64 * k = omega arith in
    rw (add-suc, after-append v n k m x e, p, drop-append-add m x (64 * k))

-- ---- padding

padded-length : (tail : List ℕ) (n : ℕ) → length (padded tail n) ≡ length tail + (1 + (gap (length tail) + 8))
unfolding padded
padded-length tail n = simp (length-append, length-replicate) (omega arith)

-- 5.1.1: the padding fills whole blocks, and with fewer zeros it would not.
pub gap_fills : (n : ℕ) → (n + (1 + (gap n + 8))) % 64 ≡ 0
gap_fills n = omega arith

pub gap-least : (n k : ℕ) → (n + (1 + (k + 8))) % 64 ≡ 0 → gap n ≤ k
gap-least n k h = omega arith

-- Whole blocks in front of the last bytes are not padded.
padded-split : (tail : List ℕ) (n k : ℕ) → gap (length (drop k tail)) ≡ gap (length tail) → padded tail n ≡ take k tail ++ padded (drop k tail) n
unfolding padded
padded-split tail n k e =
    let z : List ℕ = 0x80 ∷ (replicate (gap (length tail)) 0 ++ be 8 (8 * n % 2 ^ 64)) in
    rw e (ap (λ (l : List ℕ). l ++ z) (sym (take-append-drop k tail)) ∙ append_assoc (take k tail) (drop k tail) z)

-- Whole blocks in front of a message's last bytes may be taken in before the padding is looked at.
pub finished-append : (v a b : List ℕ) (n count : ℕ) → length a ≡ 64 * count → finished (after v count a) b n ≡ finished v (a ++ b) n
unfolding finished
finished-append v a b n count e =
    let same : gap (length (drop (64 * count) (a ++ b))) ≡ gap (length (a ++ b)) = simp (length-drop, length-append) (omega arith) in
    let whole : padded (a ++ b) n ≡ a ++ padded b n =
    padded-split (a ++ b) n (64 * count) same ∙ rw (take_at a b (64 * count) e, drop_at a b (64 * count) e) in
    let all : length (padded (a ++ b) n) / 64 ≡ count + length (padded b n) / 64 = rw (whole, length-append a (padded b n), e) (omega arith) in
    rw (all, whole) (sym (after-append v count (length (padded b n) / 64) a (padded b n) e))

pub finish_law : (v tail : List ℕ) (n count : ℕ) {u r : List ℕ} → count ≡ length tail / 64
    → u ≡ after v count tail
    → r ≡ finished u (drop (64 * count) tail) n
    → r ≡ finished v tail n
finish_law v tail n count {u} {r} e f g =
    let h : 64 * count ≤ length tail = omega arith in
    let m : List ℕ = take (64 * count) tail in
    let start : u ≡ after v count m = f ∙ after-take v count tail h in
    g ∙ rw start (finished-append v m (drop (64 * count) tail) n count (length-take-le (64 * count) tail h) ∙ ap (λ (l : List ℕ). finished v l n) (take-append-drop (64 * count) tail))

-- ---- the blocks that end a message

-- A buffer of last bytes, the mark and zeros, with the length stored at e, is the padded end of the message.
stored : (tail vs b : List ℕ) (e z y w : ℕ) → length vs ≡ 8 → length tail + (1 + z) ≡ e → y ≡ z + (8 + w)
    → b ≡ sets (tail ++ (0x80 ∷ replicate y 0)) e vs
    → take (e + 8) b ≡ tail ++ (0x80 ∷ (replicate z 0 ++ vs))
stored tail vs b e z y w lv le ly f =
    let q : List ℕ = tail ++ (0x80 ∷ replicate z 0) in
    let o : List ℕ = replicate (8 + w) 0 in
    let t : tail ++ (0x80 ∷ replicate y 0) ≡ q ++ o =
    rw (ly, ← replicate-append-replicate {A = ℕ} z (8 + w) 0) (sym (append_assoc tail (0x80 ∷ replicate z 0) o)) in
    let lq : length q ≡ e = simp (length-append, length-replicate) (omega arith) in
    let fits : e + length vs ≤ length (q ++ o) = rw (length-append q o, lq, lv, length-replicate {A = ℕ} (8 + w) 0) (omega arith) in
    let g : b ≡ q ++ vs ++ drop (e + length vs) (q ++ o) =
    f ∙ rw t (sets-eq vs (q ++ o) e fits ∙ ap (λ (l : List ℕ). l ++ vs ++ drop (e + length vs) (q ++ o)) (take_at q o e lq)) in
    let lqv : length (q ++ vs) ≡ e + 8 = rw (length-append q vs, lq, lv) in
    rw g (take_at (q ++ vs) (drop (e + length vs) (q ++ o)) (e + 8) lqv ∙ append_assoc tail (0x80 ∷ replicate z 0) vs)

pub pad_law : (v tail : List ℕ) (n : ℕ) {a b r : List ℕ} → length tail < 64 → length b ≡ 128
    → a ≡ tail ++ (0x80 ∷ replicate (127 - length tail) 0)
    → b ≡ sets a (64 * ((length tail + 72) / 64) - 8) (be 8 (n * 2 ^ 3 % 2 ^ 64))
    → r ≡ after v (length (take (64 * ((length tail + 72) / 64)) b) / 64) (take (64 * ((length tail + 72) / 64)) b)
    → r ≡ finished v tail n
unfolding finished padded
pad_law v tail n {a} {b} {r} h lb ea eb er =
    let count : ℕ = (length tail + 72) / 64 in
    let e : ℕ = 64 * count - 8 in
    let end : e + 8 ≡ 64 * count = omega arith in
    let front : take (64 * count) b ≡ padded tail n =
    rw (← end) (stored tail (be 8 (n * 2 ^ 3 % 2 ^ 64)) b e (gap (length tail)) (127 - length tail) (128 - 64 * count) refl (omega arith) (omega arith) (rw ea at eb) ∙ rw (mul_comm n 8)) in
    er ∙ rw front

-- ---- the buffer

drop_zeros : (n k : ℕ) → drop {A = ℕ} n (replicate k 0) ≡ replicate (k - n) 0
drop_zeros zero k = rw sub-zero
drop_zeros (suc n) zero = rw zero-sub
drop_zeros (suc n) (suc k) = rw suc-sub-suc (drop_zeros n k)

-- The last bytes copied over zeros, and the mark behind them.
pub mark_law : (m : List ℕ) {x : List ℕ} → length m < 64 → x ≡ m
    → set (x ++ drop (length m) (replicate 128 0)) (length m) 0x80 ≡ m ++ (0x80 ∷ replicate (127 - length m) 0)
mark_law m l e =
    let w : 128 - length m ≡ suc (127 - length m) = omega arith in
    rw (e, drop_zeros (length m) 128, w) (set_at m 0 (replicate (127 - length m) 0) 0x80 (length m) refl)
