-- Words of 32 bits and their bytes, the highest first: each gives back the other. Assumes nothing.
use Rattle.std.proofs.Common.{◌≡◌, ℕ, zero, suc, ◌+◌, ◌*◌, ◌/◌, ◌%◌, ◌^◌, ◌<◌, ◌≤◌, List, [], ◌∷◌, ◌++◌, length, get_or, take, drop, replicate, sym, refl, ap, ◌∙◌, ap₂, append_assoc, append-nil, add_assoc, suc-add, zero-add, div-one, add-one, arith, length-take-le, get_or-drop, take-suc, drop-drop, shr-shr, ext_get_or, take_at, drop_at, drop_of_length-le}
use lib.Seq.{sets, sets-eq, take-length}
use borrow.Rule.Slice.PartMut.{put_mid}
use Rattle.std.specs.Int.{w32, w64, to_be_bytes}
use Rattle.hash.specs.Word.{Words, Bytes, word32, words, be, bytes_of}

pub length-words : (n : ℕ) (s : List ℕ) → length (words n s) ≡ n
unfolding words
length-words zero s = refl
length-words (suc n) s = ap suc (length-words n (drop 4 s))

pub length-bytes : (w : List ℕ) → length (bytes_of w) ≡ 4 * length w
unfolding bytes_of
length-bytes [] = refl
length-bytes (x ∷ w) = omega (arith, length-bytes w)

-- zero words, zero bytes
pub bytes_zeros : (n : ℕ) → bytes_of (replicate n 0) ≡ replicate (4 * n) 0
unfolding bytes_of
bytes_zeros zero = refl
bytes_zeros (suc n) =
    let e : 4 * suc n ≡ suc (suc (suc (suc (4 * n)))) = omega arith in
    rw (e, bytes_zeros n)

pub bytes-append : (u v : List ℕ) → bytes_of (u ++ v) ≡ bytes_of u ++ bytes_of v
unfolding bytes_of
bytes-append [] v = refl
bytes-append (x ∷ u) v = ap (λ (l : List ℕ). be 4 x ++ l) (bytes-append u v)

-- ---- where words stand in a list of bytes

word_in : (s : List ℕ) (at i : ℕ) → word32 (drop at s) i ≡ word32 s (at + i)
unfolding word32
word_in s at i =
    rw (get_or-drop at s i 0, get_or-drop at s (i + 1) 0, get_or-drop at s (i + 2) 0, get_or-drop at s (i + 3) 0, add_assoc at i 1, add_assoc at i 2, add_assoc at i 3)

get_or-words : (n : ℕ) (s : List ℕ) (i : ℕ) → i < n → get_or (words n s) i 0 ≡ word32 s (4 * i)
unfolding words
get_or-words zero s i h = absurd (omega arith)
get_or-words (suc n) s zero h = refl
get_or-words (suc n) s (suc i) h =
    let e : 4 * suc i ≡ 4 + 4 * i = omega arith in
    rw e (get_or-words n (drop 4 s) i (omega arith) ∙ word_in s 4 (4 * i))

-- Eight words, each by its place.
pub load_law : (s : List ℕ) (at : ℕ) (w : List ℕ) → length w ≡ 8 → ((i : ℕ) → i < 8 → get_or w i 0 ≡ word32 s (at + 4 * i))
    → w ≡ words 8 (drop at s)
load_law s at w l a =
    ext_get_or 0 w (words 8 (drop at s)) (l ∙ sym (length-words 8 (drop at s)))
    (λ i h. a i (omega arith) ∙ sym (get_or-words 8 (drop at s) i (omega arith) ∙ word_in s at (4 * i)))

words-add : (m n : ℕ) (s : List ℕ) → words (m + n) s ≡ words m s ++ words n (drop (4 * m) s)
unfolding words
words-add zero n s = rw zero-add
words-add (suc m) n s =
    let e : 4 * suc m ≡ 4 + 4 * m = omega arith in
    rw (suc-add, e, ← (drop-drop (4 * m) 4 s)) (ap (λ (l : List ℕ). word32 s 0 ∷ l) (words-add m n (drop 4 s)))

-- Four bytes to a word.
abbrev four : ℕ → ℕ
four zero = zero
four (suc n) = suc (suc (suc (suc (four n))))

words-front : (n : ℕ) (s : List ℕ) → words n (take (four n) s) ≡ words n s
unfolding words word32
words-front zero s = refl
words-front (suc n) [] = refl
words-front (suc n) (a ∷ []) = refl
words-front (suc n) (a ∷ b ∷ []) = refl
words-front (suc n) (a ∷ b ∷ c ∷ []) = refl
words-front (suc n) (a ∷ b ∷ c ∷ d ∷ s) = ap (λ (l : List ℕ). (a * 2 ^ 24 + b * 2 ^ 16 + c * 2 ^ 8 + d) ∷ l) (words-front n s)

-- The sixteen words of a block are the eight of each half.
pub words-pair : (s : List ℕ) (at : ℕ) → words 8 (drop at s) ++ words 8 (drop (at + 32) s) ≡ words 16 (take 64 (drop at s))
words-pair s at = sym (words-front 16 (drop at s) ∙ words-add 8 8 (drop at s) ∙ rw (drop-drop 32 at s))

-- A list of n over the front of one of 2 * n, and another over the rest.
pub pair_law : (n : ℕ) (u v z : List ℕ) {x y : List ℕ} → length u ≡ n → length z ≡ n → x ≡ u → y ≡ v → put_mid n n (x ++ z) y ≡ u ++ v
pair_law n u v z l m e f =
    rw (e, f, take_at u z n l, drop_at u z n l, drop_of_length-le z {i = n} (omega arith), append-nil v)

-- As the standard library has them.
pub be_4 : (x : ℕ) → to_be_bytes w32 x ≡ be 4 x
be_4 x = rw (div-one x)

pub be_8 : (x : ℕ) → to_be_bytes w64 x ≡ be 8 x
be_8 x = rw (div-one x)

-- ---- writing the bytes of words, one word after another

pub written-more : (w : List ℕ) (i : ℕ) → i < length w → bytes_of (take (suc i) w) ≡ bytes_of (take i w) ++ be 4 (get_or w i 0)
unfolding bytes_of
written-more w i h = rw (take-suc w i 0 h, bytes-append (take i w) (get_or w i 0 ∷ []))

-- The bytes of the first i words over the front of b.
abbrev pub written : ℕ → (w b : List ℕ) → List ℕ
written i w b = bytes_of (take i w) ++ drop (4 * i) b

pub write_none : (w b : List ℕ) → b ≡ written 0 w b
unfolding bytes_of
write_none w b = refl

front-long : (w : List ℕ) (i : ℕ) → i ≤ length w → length (bytes_of (take i w)) ≡ 4 * i
front-long w i h = length-bytes (take i w) ∙ ap (λ (n : ℕ). 4 * n) (length-take-le i w h)

-- A turn of the loop over the words, and its end.
pub write-turn : (w b : List ℕ) (i k : ℕ) {r ys : List ℕ} → i < length w → k ≡ 4 → r ≡ written i w b → ys ≡ be 4 (get_or w i 0)
    → put_mid (4 * i) k r ys ≡ written (i + 1) w b
write-turn w b i k h m e f =
    let p : List ℕ = bytes_of (take i w) in
    let l : length p ≡ 4 * i = front-long w i (omega arith) in
    let at : 4 * suc i ≡ 4 * i + 4 = omega arith in
    rw (e, f, m, take_at p (drop (4 * i) b) (4 * i) l, drop_at p (drop (4 * i) b) (4 * i) l, drop-drop 4 (4 * i) b, add-one i, at, written-more w i h)
    (sym (append_assoc p (be 4 (get_or w i 0)) (drop (4 * i + 4) b)))

pub write_end : (w b : List ℕ) (i : ℕ) {r : List ℕ} → length b ≡ 4 * length w → i ≤ length w → length w ≤ i → r ≡ written i w b → r ≡ bytes_of w
write_end w b i l h k e =
    let all : i ≡ length w = omega arith in
    (rw (all, take-length w, drop_of_length-le b {i = 4 * length w} (omega arith)) at e) ∙ append-nil (bytes_of w)

-- A part of b written over by a list.
pub put_sets : (b vs : List ℕ) (at k : ℕ) {ys : List ℕ} → ys ≡ vs → k ≡ length vs → at + length vs ≤ length b → put_mid at k b ys ≡ sets b at vs
put_sets b vs at k e f h =
    rw (e, f, drop-drop (length vs) at b) (sym (append_assoc (take at b) vs (drop (at + length vs) b)) ∙ sym (sets-eq vs b at h))

-- ---- each gives back the other

-- A word from its bytes.
abbrev value : (a b c d : ℕ) → ℕ
value a b c d = a * 2 ^ 24 + b * 2 ^ 16 + c * 2 ^ 8 + d

value_of : (x p q r z : ℕ) → z ≡ x → p ≡ x / 256 → q ≡ p / 256 → r ≡ q / 256 → x < 2 ^ 32 → value (r % 256) (q % 256) (p % 256) (z % 256) ≡ x
value_of x p q r z e f g h l = omega arith

pub value_is : (x : ℕ) → x < 2 ^ 32 → value (x / 2 ^ 24 % 2 ^ 8) (x / 2 ^ 16 % 2 ^ 8) (x / 2 ^ 8 % 2 ^ 8) (x / 2 ^ 0 % 2 ^ 8) ≡ x
value_is x h = value_of x (x / 2 ^ 8) (x / 2 ^ 16) (x / 2 ^ 24) (x / 2 ^ 0) (div-one x) refl (sym (shr-shr x 8 8)) (sym (shr-shr x 16 8)) h

word_bytes : (x : ℕ) (s : List ℕ) → x < 2 ^ 32 → word32 (be 4 x ++ s) 0 ≡ x
unfolding word32
word_bytes x s h = value_is x h

-- The words of the bytes of words.
pub words-bytes : (w : List ℕ) → Words w → words (length w) (bytes_of w) ≡ w
unfolding words bytes_of
words-bytes [] h = refl
words-bytes (x ∷ w) h = rw (word_bytes x (bytes_of w) (h 0), words-bytes w (λ i. h (suc i)))

-- The bytes of a word that was made of bytes. The word may be any number.
high_byte : (a b c d : ℕ) → b < 256 → c < 256 → d < 256 → value a b c d / 2 ^ 24 ≡ a
high_byte a b c d k l m = omega arith

high-bytes : (a b c d : ℕ) → c < 256 → d < 256 → value a b c d / 2 ^ 16 ≡ a * 256 + b
high-bytes a b c d l m = omega arith

but_low_byte : (a b c d : ℕ) → d < 256 → value a b c d / 2 ^ 8 ≡ a * 2 ^ 16 + b * 256 + c
but_low_byte a b c d m = omega arith

four-cells : {p q r s p' q' r' s' : ℕ} → p ≡ p' → q ≡ q' → r ≡ r' → s ≡ s' → p ∷ q ∷ r ∷ s ∷ [] ≡ p' ∷ q' ∷ r' ∷ s' ∷ []
four-cells e f g h = cc

value-bytes : (a b c d : ℕ) → a < 256 → b < 256 → c < 256 → d < 256 → be 4 (value a b c d) ≡ a ∷ b ∷ c ∷ d ∷ []
value-bytes a b c d j k l m =
    four-cells (omega (arith, high_byte a b c d k l m)) (omega (arith, high-bytes a b c d l m)) (omega (arith, but_low_byte a b c d m)) (omega (arith, div-one (value a b c d)))

-- The bytes of the words of bytes.
pub bytes-words : (n : ℕ) (s : List ℕ) → Bytes s → 4 * n ≤ length s → bytes_of (words n s) ≡ take (4 * n) s
unfolding words word32 bytes_of
bytes-words zero s h l = refl
bytes-words (suc n) [] h l = absurd (omega arith)
bytes-words (suc n) (a ∷ []) h l = absurd (omega arith)
bytes-words (suc n) (a ∷ b ∷ []) h l = absurd (omega arith)
bytes-words (suc n) (a ∷ b ∷ c ∷ []) h l = absurd (omega arith)
bytes-words (suc n) (a ∷ b ∷ c ∷ d ∷ s) h l =
    let e : 4 * suc n ≡ suc (suc (suc (suc (4 * n)))) = omega arith in
    rw e (ap₂ (λ (p q : List ℕ). p ++ q) (value-bytes a b c d (h 0) (h 1) (h 2) (h 3)) (bytes-words n s (λ i. h (suc (suc (suc (suc i))))) (omega arith)))

-- Bytes are below 256.
pub bytes_below : (w : List ℕ) → Bytes (bytes_of w)
unfolding bytes_of
bytes_below [] i = omega arith
bytes_below (x ∷ w) zero = omega arith
bytes_below (x ∷ w) (suc zero) = omega arith
bytes_below (x ∷ w) (suc (suc zero)) = omega arith
bytes_below (x ∷ w) (suc (suc (suc zero))) = omega arith
bytes_below (x ∷ w) (suc (suc (suc (suc i)))) = bytes_below w i

-- The words of a list of bytes fit 32 bits.
pub words-below : (n : ℕ) (s : List ℕ) → Bytes s → Words (words n s)
unfolding words word32
words-below zero s h i = omega arith
words-below (suc n) s h zero = omega (arith, h 0, h 1, h 2, h 3)
words-below (suc n) s h (suc i) = words-below n (drop 4 s) (λ j. rw (get_or-drop 4 s j 0) (h (4 + j))) i
