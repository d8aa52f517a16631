-- Writing one node's hash in the hash room, and reading any node's. Assumes nothing.
use mathlib.Core.Path.{◌≡◌, refl, sym, ap, ap₂, ◌∙◌}
use mathlib.Core.Logic.{◌⊎◌, inl, inr, ◌≢◌}
use mathlib.Core.Bool.{Bool, true, false}
use mathlib.Core.List.{List, [], ◌∷◌, ◌++◌}
use Prim.Native.Nat.{ℕ, zero, suc, ◌+◌, ◌-◌, ◌*◌, ◌/◌, ◌≤◌, ◌<◌}
use native.Mathlib.Omega.{arith}
use borrow.Author.Tests.{lt-ltb, le-ltb}
use lib.Dec.{ltb}
use lib.ListN.{length, take, drop, get_or, set, length-set, replicate}
use lib.Seq.{sets, length-sets, get_or-set_same, get_or-set_other, take-length}
use Rattle.std.proofs.Common.{append_assoc, length-drop, get_or-drop, Option as Found, Some, None, Bor, MatchOption, ltb-true}
use Rattle.std.proofs.lemmas.Bool.{ltb-false}
use Rattle.std.specs.Option.{is_some, IfSome}
use Rattle.std.specs.Simd.{first_chunks}
use Rattle.std.proofs.lemmas.List.Edits.{sets-eq, paste_all}
use Rattle.std.proofs.lemmas.Slice.{put_mid-paste}
use borrow.Rule.Slice.PartMut.{put_mid}
use Rattle.hash.proofs.Promise.{sha256, bytes_of, words, Words, sha256-length, sha256-bytes, bytes-length, bytes_zeros, bytes_below, words-length, words-bytes, bytes-words}
use Rattle.base.specs.Pick.{pick}
use Rattle.verdict.specs.Room.{filler, Digest, words_at, holds, hash_in, put_hash}
use Rattle.tree.proofs.NodeLaws.{split}

-- ---- words of a room

pub length-words_at : (n : ℕ) (l : List ℕ) (i : ℕ) → length (words_at n l i) ≡ n
unfolding words_at
length-words_at zero l i = refl
length-words_at (suc n) l i = ap suc (length-words_at n l (suc i))

words_at_fit : (n : ℕ) (l : List ℕ) (i : ℕ) → Words l → Words (words_at n l i)
unfolding words_at
words_at_fit zero l i h j = omega arith
words_at_fit (suc n) l i h zero = h i
words_at_fit (suc n) l i h (suc j) = words_at_fit n l (suc i) h j

-- outside of what is written
get_or_sets_out : (vs l : List ℕ) (i j : ℕ) → (j < i) ⊎ (i + length vs ≤ j) → get_or (sets l i vs) j 0 ≡ get_or l j 0
get_or_sets_out [] l i j o = refl
get_or_sets_out (v ∷ vs) l i j o = get_or_sets_out vs (set l i v) (suc i) j (go o) ∙ get_or-set_other l i j v 0 (ne o)
  where
    go : (j < i) ⊎ (i + length (v ∷ vs) ≤ j) → (j < suc i) ⊎ (suc i + length vs ≤ j)
    go (inl h) = inl (omega arith)
    go (inr h) = inr (omega arith)

    ne : (j < i) ⊎ (i + length (v ∷ vs) ≤ j) → j ≢ i
    ne (inl h) e = omega arith
    ne (inr h) e = omega arith

words-out : (n : ℕ) (vs l : List ℕ) (i j : ℕ) → (j + n ≤ i) ⊎ (i + length vs ≤ j) → words_at n (sets l i vs) j ≡ words_at n l j
unfolding words_at
words-out zero vs l i j o = refl
words-out (suc n) vs l i j o = ap₂ {C = List ℕ} ◌∷◌ (get_or_sets_out vs l i j (here o)) (words-out n vs l i (suc j) (there o))
  where
    here : (j + suc n ≤ i) ⊎ (i + length vs ≤ j) → (j < i) ⊎ (i + length vs ≤ j)
    here (inl h) = inl (omega arith)
    here (inr h) = inr h

    there : (j + suc n ≤ i) ⊎ (i + length vs ≤ j) → (suc j + n ≤ i) ⊎ (i + length vs ≤ suc j)
    there (inl h) = inl (omega arith)
    there (inr h) = inr (omega arith)

words_in : (vs l : List ℕ) (i : ℕ) → i + length vs ≤ length l → words_at (length vs) (sets l i vs) i ≡ vs
unfolding words_at
words_in [] l i h = refl
words_in (v ∷ vs) l i h =
    ap₂ {C = List ℕ} ◌∷◌
    (get_or_sets_out vs (set l i v) (suc i) i (inl (omega arith)) ∙ get_or-set_same l i v 0 (omega arith))
    (words_in vs (set l i v) (suc i) (rw length-set (omega arith)))

words_in_n : (n : ℕ) (vs l : List ℕ) (i : ℕ) → length vs ≡ n → i + n ≤ length l → words_at n (sets l i vs) i ≡ vs
words_in_n n vs l i e h = rw (← e) (words_in vs l i (rw e h))

-- ---- hashes

pub digest_words : (w : List ℕ) → length w ≡ 8 → Digest (bytes_of w)
unfolding Digest
digest_words w e = (bytes_below w, bytes-length w ∙ ap (λ (n : ℕ). 4 * n) e)

pub digest_filler : Digest filler
unfolding Digest filler
digest_filler = rw (bytes_zeros 8) at (digest_words (replicate 8 0) refl)

pub digest_hash : (m : List ℕ) → Digest (sha256 m)
unfolding Digest
digest_hash m = (sha256-bytes m, sha256-length m)

pub digest_in : (l : List ℕ) (b : ℕ) → Digest (hash_in l b)
unfolding hash_in
digest_in l b = go (holds l b)
  where
    go : (t : Bool) → Digest (pick t (bytes_of (words_at 8 l (8 * b))) filler)
    go true = digest_words (words_at 8 l (8 * b)) (length-words_at 8 l (8 * b))
    go false = digest_filler

digest_length : (v : List ℕ) → Digest v → length v ≡ 32
unfolding Digest
digest_length v d = d.1

pub hash-length : (l : List ℕ) (b : ℕ) → length (hash_in l b) ≡ 32
hash-length l b = digest_length (hash_in l b) (digest_in l b)

-- the words of a hash stand for it
digest_back : (v : List ℕ) → Digest v → bytes_of (words 8 v) ≡ v
unfolding Digest
digest_back v d =
    bytes-words 8 v d.0 (omega (arith, d.1)) ∙ ap (λ (n : ℕ). take n v) (sym d.1) ∙ take-length v

pub hash-words : (l : List ℕ) (b : ℕ) → bytes_of (words 8 (hash_in l b)) ≡ hash_in l b
hash-words l b = digest_back (hash_in l b) (digest_in l b)

-- ---- by nodes

pub length-put_hash : (l : List ℕ) (b : ℕ) (v : List ℕ) → length (put_hash l b v) ≡ length l
unfolding put_hash
length-put_hash l b v = go (holds l b)
  where
    go : (t : Bool) → length (pick t (sets l (8 * b) (words 8 v)) l) ≡ length l
    go true = length-sets l (8 * b) (words 8 v)
    go false = refl

pub hash-same : (l : List ℕ) (b : ℕ) (v : List ℕ) → b < length l / 8 → Digest v → hash_in (put_hash l b v) b ≡ v
unfolding hash_in put_hash
hash-same l b v h d =
    rw (lt-ltb b (length l / 8) h, length-sets l (8 * b) (words 8 v), lt-ltb b (length l / 8) h)
    (ap bytes_of (words_in_n 8 (words 8 v) l (8 * b) (words-length 8 v) (omega arith)) ∙ digest_back v d)

pub hash-other : (l : List ℕ) (b b' : ℕ) (v : List ℕ) → b' ≢ b → hash_in (put_hash l b v) b' ≡ hash_in l b'
unfolding hash_in put_hash
hash-other l b b' v d = go (holds l b)
  where
    apart : (b' ≤ b) ⊎ (b < b') → (8 * b' + 8 ≤ 8 * b) ⊎ (8 * b + length (words 8 v) ≤ 8 * b')
    apart (inl h) = let e : suc b' ≤ b = omega arith in inl (omega arith)
    apart (inr h) = inr (omega (arith, words-length 8 v))

    go : (t : Bool)
        → pick (ltb b' (length (pick t (sets l (8 * b) (words 8 v)) l) / 8)) (bytes_of (words_at 8 (pick t (sets l (8 * b) (words 8 v)) l) (8 * b'))) filler
        ≡ pick (holds l b') (bytes_of (words_at 8 l (8 * b'))) filler
    go true =
        ap₂ (λ (n : ℕ) (x : List ℕ). pick (ltb b' (n / 8)) (bytes_of x) filler) (length-sets l (8 * b) (words 8 v))
        (words-out 8 (words 8 v) l (8 * b) (8 * b') (apart (split b' b)))
    go false = refl

-- ---- as the code has them

words_tail : (n x : ℕ) (l : List ℕ) (i : ℕ) → words_at n (x ∷ l) (suc i) ≡ words_at n l i
unfolding words_at
words_tail zero x l i = refl
words_tail (suc n) x l i = ap (λ (ws : List ℕ). get_or l i 0 ∷ ws) (words_tail n x l (suc i))

words_first : (n : ℕ) (l : List ℕ) → n ≤ length l → take n l ≡ words_at n l 0
unfolding words_at
words_first zero l h = refl
words_first (suc n) [] h = absurd (omega arith)
words_first (suc n) (x ∷ l) h = ap (λ (ws : List ℕ). x ∷ ws) (words_first n l (omega arith) ∙ sym (words_tail n x l 0))

words_behind : (n k : ℕ) (l : List ℕ) (i : ℕ) → words_at n (drop k l) i ≡ words_at n l (k + i)
unfolding words_at
words_behind zero k l i = refl
words_behind (suc n) k l i =
    ap₂ {C = List ℕ} ◌∷◌ (get_or-drop k l i 0) (words_behind n k l (suc i) ∙ ap (words_at n l) (omega arith))

chunk-at : (k : ℕ) (l : List ℕ) (b : ℕ) (d : List ℕ) → b < k → 8 * k ≤ length l → get_or (first_chunks 8 k l) b d ≡ words_at 8 l (8 * b)
chunk-at zero l b d h u = absurd (omega arith)
chunk-at (suc k) l zero d h u = words_first 8 l (omega arith)
chunk-at (suc k) l (suc b) d h u =
    chunk-at k (drop 8 l) b d (omega arith) (omega (arith, length-drop 8 l))
    ∙ words_behind 8 8 l (8 * b) ∙ ap (words_at 8 l) (omega arith)

-- of the parts of eight words, the one of node b
pub place_of : (l : List ℕ) (b : ℕ) {front : List (List ℕ)} (r : Found (Bor (List ℕ))) → front ≡ first_chunks 8 (length l / 8) l → length front ≡ length l / 8
    → is_some r ≡ ltb b (length front) → IfSome r (λ x. x.now ≡ get_or front b x.now)
    → MatchOption r (length l / 8 ≤ b) (λ w. (b < length l / 8) × (w.now ≡ words_at 8 l (8 * b)))
place_of l b {front} None e n s g = let m = ltb-false b (length front) (sym s) in omega (arith, m, n)
place_of l b {front} (Some x) e n s g =
    let m : b < length l / 8 = omega (arith, ltb-true b (length front) (sym s), n) in
    (m, g ∙ ap (λ (y : List (List ℕ)). get_or y b x.now) e ∙ chunk-at (length l / 8) l b x.now m (omega arith))

pub hash-there : (l : List ℕ) (b : ℕ) → b < length l / 8 → hash_in l b ≡ bytes_of (words_at 8 l (8 * b))
unfolding hash_in
hash-there l b h = rw (lt-ltb b (length l / 8) h)

pub read_past : (l : List ℕ) (b : ℕ) → length l / 8 ≤ b → hash_in l b ≡ filler
unfolding hash_in
read_past l b h = rw (le-ltb b (length l / 8) h)

-- the words of eight words' bytes are those words
words_back : (w : List ℕ) → Words w → length w ≡ 8 → words 8 (bytes_of w) ≡ w
words_back w h e = ap (λ (n : ℕ). words n (bytes_of w)) (sym e) ∙ words-bytes w h

pub word-there : (l : List ℕ) (b j : ℕ) → Words l → b < length l / 8 → get_or (words_at 8 l (8 * b)) j 0 ≡ get_or (words 8 (hash_in l b)) j 0
unfolding hash_in
word-there l b j h i =
    rw (lt-ltb b (length l / 8) i, words_back (words_at 8 l (8 * b)) (words_at_fit 8 l (8 * b) h) (length-words_at 8 l (8 * b)))
    refl

zeros : (n i : ℕ) → get_or {A = ℕ} (replicate n 0) i 0 ≡ 0
zeros zero i = refl
zeros (suc n) zero = refl
zeros (suc n) (suc i) = zeros n i

pub word-past : (l : List ℕ) (b j : ℕ) → length l / 8 ≤ b → 0 ≡ get_or (words 8 (hash_in l b)) j 0
unfolding filler
word-past l b j h =
    rw (read_past l b h, ← (bytes_zeros 8), words_back (replicate 8 0) (λ i. omega (arith, zeros 8 i)) refl)
    (sym (zeros 8 j))

-- after a write to the eight words of the place, which then hold v
pub write_there : (l : List ℕ) (b : ℕ) (v : List ℕ) {part : List ℕ} → b < length l / 8 → length v ≡ 8 → Words v → part ≡ v
    → put_mid (8 * b) (8 * b + 8 - 8 * b) l part ≡ put_hash l b (bytes_of v)
unfolding put_hash
write_there l b v i e h p =
    let k : 8 ≡ 8 * b + 8 - 8 * b = omega arith in
    rw (lt-ltb b (length l / 8) i, words_back v h e)
    (put_mid-paste (8 * b) (8 * b + 8 - 8 * b) l _ v 8 p k (sym e) ∙ paste_all l (8 * b) v 8 (sym e)
    ∙ ap (λ (n : ℕ). take (8 * b) l ++ (v ++ drop (8 * b + n) l)) (sym e)
    ∙ sym (sets-eq v l (8 * b) (omega (arith, e)) ∙ append_assoc (take (8 * b) l) v _))

pub write-past : (l : List ℕ) (b : ℕ) (v : List ℕ) → length l / 8 ≤ b → l ≡ put_hash l b v
unfolding put_hash
write-past l b v h = rw (le-ltb b (length l / 8) h)
