-- Words of ones, looked at together: the run goes on by all of them. Assumes nothing.
use Prim.Native.Nat.{ℕ, zero, suc, ◌+◌, ◌-◌, ◌*◌, ◌/◌, ◌%◌, ◌^◌, ◌≤◌, ◌<◌, min}
use native.Mathlib.Omega.{arith}
use native.Mathlib.Decide.{dec_lt}
use mathlib.Core.Path.{◌≡◌, refl, ap, ◌∙◌}
use mathlib.Core.Logic.{◌≢◌}
use mathlib.Core.Bool.{true}
use mathlib.Core.List.{List, [], reverse}
use borrow.Author.Tests.{eqb-true, eqb-false, eq-eqb}
use lib.Count.{count_trailing_zeros, count_leading_zeros, leading_top}
use lib.ListN.{length, get_or, take, drop, replicate, get_or-replicate}
use Rattle.std.proofs.Common.{get_or-drop, drop-drop, length-take-le, length-drop, get_or-take}
use Rattle.std.proofs.lemmas.List.{length-reverse, get_or-reverse}
use Rattle.std.proofs.lemmas.List.Sums.{prefix_len_passes, prefix_len_stops, prefix_len-le-length}
use Rattle.std.proofs.lemmas.Nat.Bits.{bit_at-trailing_zeros}
use Rattle.std.proofs.lemmas.Slice.Eq.{slice_eq-Decides}
use Rattle.std.specs.Int.{w32}
use Rattle.std.specs.List.{prefix_len}
use Rattle.std.specs.Simd.{first_chunks}
use Rattle.bits.specs.Bits.{held_below, held_from}
use Rattle.bits.specs.Steps.{is_ones, is_block, front_blocks, end_blocks, AllOnes, OnesInFront, OnesAtEnd}
use Rattle.bits.proofs.HeldLaws.{held-from_le, from_past, below_at}
use Rattle.bits.proofs.OnesLaws.{low-ones-word, high-ones-word, word_more, word-more-below}

-- ---- blocks of eight words

chunks_length : (n k : ℕ) (xs : List ℕ) → length (first_chunks n k xs) ≡ k
chunks_length n zero xs = refl
chunks_length n (suc k) xs = ap suc (chunks_length n k (drop n xs))

chunk : (n k : ℕ) (xs : List ℕ) (i : ℕ) → i < k → get_or (first_chunks n k xs) i [] ≡ take n (drop (n * i) xs)
chunk n zero xs i h = absurd (omega arith)
chunk n (suc k) xs zero h = let e : n * 0 ≡ 0 = omega arith in rw e
chunk n (suc k) xs (suc i) h =
    let e : n * suc i ≡ n + n * i = omega arith in
    rw (e, ← drop-drop (n * i) n xs) (chunk n k (drop n xs) i (omega arith))

-- A part of a row, by its words.
part_word : (ws : List ℕ) (a k i : ℕ) → i < k → get_or (take k (drop a ws)) i 0 ≡ get_or ws (a + i) 0
part_word ws a k i h = get_or-take k (drop a ws) i 0 h ∙ get_or-drop a ws i 0

block_ones : (b : List ℕ) → is_block b ≡ true → (j : ℕ) → j < 8 → get_or b j 0 ≡ 2 ^ 32 - 1
block_ones b t j h =
    let e : b ≡ replicate 8 (2 ^ 32 - 1) = (slice_eq-Decides (λ x y. (eqb-true x y, eq-eqb x y)) b _ _ refl).0 t in
    rw e (get_or-replicate {A = ℕ} 8 j (2 ^ 32 - 1) 0 h)

module _ (ws : List ℕ) where
  pub blocks_front : (n : ℕ) → n ≡ prefix_len is_block (front_blocks ws) → (8 * n ≤ length ws) × AllOnes ws 0 (8 * n)
  blocks_front n e =
      let cs : List (List ℕ) = first_chunks 8 (length ws / 8) ws in
      let l : n ≤ length ws / 8 = omega (arith, e, prefix_len-le-length is_block cs, chunks_length 8 (length ws / 8) ws) in (
        omega arith,
        λ j h.
            let t = prefix_len_passes is_block cs (j / 8) [] (rw (← e) (omega arith)) in
            let at : 8 * (j / 8) + j % 8 ≡ 0 + j = omega arith in
            let u = block_ones (take 8 (drop (8 * (j / 8)) ws)) (rw (chunk 8 (length ws / 8) ws (j / 8) (omega arith)) at t) (j % 8) (omega arith) in
            rw (part_word ws (8 * (j / 8)) 8 (j % 8) (omega arith), at) at u,
      )

  pub blocks_end : (n : ℕ) → n ≡ prefix_len is_block (reverse (end_blocks ws))
      → (8 * n ≤ length ws) × AllOnes ws (length ws - 8 * n) (8 * n)
  blocks_end n e =
      let k : ℕ = length ws / 8 in
      let xs : List ℕ = drop (length ws % 8) ws in
      let cs : List (List ℕ) = first_chunks 8 k xs in
      let m : length cs ≡ k = chunks_length 8 k xs in
      let l : n ≤ k = omega (arith, e, prefix_len-le-length is_block (reverse cs), length-reverse cs) in (
        omega arith,
        λ j h.
            let i : ℕ = n - 1 - j / 8 in
            let c : ℕ = k - n + j / 8 in
            let t = prefix_len_passes is_block (reverse cs) i [] (rw (← e) (omega arith)) in
            let back : length cs - 1 - i ≡ c = omega arith in
            let at : length ws % 8 + (8 * c + j % 8) ≡ length ws - 8 * n + j = omega arith in
            let u = block_ones (take 8 (drop (8 * c) xs)) (rw (get_or-reverse cs i [] (omega arith), back, chunk 8 k xs c (omega arith)) at t) (j % 8) (omega arith) in
            rw (part_word xs (8 * c) 8 (j % 8) (omega arith), get_or-drop (length ws % 8) ws (8 * c + j % 8) 0, at) at u,
      )

words_front : (xs : List ℕ) (m : ℕ) → m ≡ prefix_len is_ones xs → OnesInFront xs m
words_front xs m e = record {
  fits = rw e (prefix_len-le-length is_ones xs);
  ones = λ j h. let at : 0 + j ≡ j = omega arith in rw at (eqb-true _ _ (prefix_len_passes is_ones xs j 0 (rw (← e) h)));
  stop = λ h. eqb-false _ _ (rw e (prefix_len_stops is_ones xs 0 (rw (← e) h)));
}

words_end : (xs : List ℕ) (m : ℕ) → m ≡ prefix_len is_ones (reverse xs) → OnesAtEnd xs m
words_end xs m e = let l : m ≤ length xs = omega (arith, e, prefix_len-le-length is_ones (reverse xs), length-reverse xs) in record {
  fits = l;
  ones = λ j h.
      let i : ℕ = m - 1 - j in
      let at : length xs - 1 - i ≡ length xs - m + j = omega arith in
      let t = prefix_len_passes is_ones (reverse xs) i 0 (rw (← e) (omega arith)) in
      eqb-true _ _ (rw (get_or-reverse xs i 0 (omega arith), at) at t);
  stop = λ h.
      let at : length xs - 1 - m ≡ length xs - m - 1 = omega arith in
      let t = rw (← e) at (prefix_len_stops is_ones (reverse xs) 0 (rw (← e, length-reverse xs) h)) in
      eqb-false _ _ (rw (get_or-reverse xs m 0 (omega arith), at) at t);
}

module _ (ws : List ℕ) (n m : ℕ) where
  pub front_is : n ≡ prefix_len is_block (front_blocks ws)
      → m ≡ prefix_len is_ones (take (length ws - 8 * n) (drop (8 * n) ws)) → OnesInFront ws (8 * n + m)
  front_is e f =
      let b = blocks_front ws n e in
      let xs : List ℕ = take (length ws - 8 * n) (drop (8 * n) ws) in
      let w : OnesInFront xs m = words_front xs m f in
      let l : length xs ≡ length ws - 8 * n = length-take-le (length ws - 8 * n) (drop (8 * n) ws) (omega (arith, length-drop (8 * n) ws)) in record {
        fits = omega (arith, b.0, w.fits);
        ones = λ j h. elim (dec_lt j (8 * n)) [
          | yes k ↦ b.1 j k
          | no k ↦
              let at : 8 * n + (j - 8 * n) ≡ 0 + j = omega arith in
              let z : 0 + (j - 8 * n) ≡ j - 8 * n = omega arith in
              let u = w.ones (j - 8 * n) (omega arith) in
              rw (z, part_word ws (8 * n) (length ws - 8 * n) (j - 8 * n) (omega (arith, w.fits)), at) at u
        ];
        stop = λ h. let u = w.stop (omega (arith, b.0)) in
            rw (part_word ws (8 * n) (length ws - 8 * n) m (omega (arith, b.0))) at u;
      }

  pub end_is : n ≡ prefix_len is_block (reverse (end_blocks ws))
      → m ≡ prefix_len is_ones (reverse (take (length ws - 8 * n) ws)) → OnesAtEnd ws (8 * n + m)
  end_is e f =
      let b = blocks_end ws n e in
      let xs : List ℕ = take (length ws - 8 * n) ws in
      let w : OnesAtEnd xs m = words_end xs m f in
      let l : length xs ≡ length ws - 8 * n = length-take-le (length ws - 8 * n) ws (omega arith) in record {
        fits = omega (arith, b.0, w.fits);
        ones = λ j h. elim (dec_lt j m) [
          | yes k ↦
              let at : length xs - m + j ≡ length ws - (8 * n + m) + j = omega (arith, b.0) in
              let u = w.ones j k in
              rw (at, get_or-take (length ws - 8 * n) ws (length ws - (8 * n + m) + j) 0 (omega (arith, b.0, w.fits))) at u
          | no k ↦
              let at : length ws - 8 * n + (j - m) ≡ length ws - (8 * n + m) + j = omega (arith, b.0, w.fits) in
              rw at at (b.1 (j - m) (omega arith))
        ];
        stop = λ h.
            let at : length xs - m - 1 ≡ length ws - (8 * n + m) - 1 = omega (arith, b.0) in
            let u = w.stop (omega (arith, b.0)) in
            rw (at, get_or-take (length ws - 8 * n) ws (length ws - (8 * n + m) - 1) 0 (omega (arith, b.0))) at u;
      }

-- ---- the run

module _ (ws : List ℕ) where
  ones-word : (w d : ℕ) → get_or ws w 0 ≡ 2 ^ 32 - 1 → 32 ≤ d → 32 ≤ held_from ws d (32 * w)
  unfolding count_trailing_zeros
  ones-word w d e h = let r = rw e at (low-ones-word ws w d (omega arith) h) in omega (arith, r)

  ones_below : (w : ℕ) → 0 < w → get_or ws (w - 1) 0 ≡ 2 ^ 32 - 1 → 32 ≤ held_below ws (32 * w)
  unfolding count_leading_zeros
  ones_below w h e = let r = rw e at (high-ones-word ws w h (omega arith)) in omega (arith, r)

  -- The run from place x on that came to word w goes on by n words of ones,
  words_more : (n x w u : ℕ) → x ≤ 32 * w → 32 * w - x ≤ held_from ws (u - x) x → AllOnes ws w n → 32 * (w + n) ≤ u
      → 32 * (w + n) - x ≤ held_from ws (u - x) x
  words_more zero x w u h l a k = omega arith
  words_more (suc n) x w u h l a k =
      let i = words_more n x w u h l (λ j m. a j (omega arith)) (omega arith) in
      let m = word_more ws x (w + n) u (omega arith) i
      (ones-word (w + n) (u - 32 * (w + n)) (a n (omega arith)) (omega arith)) in
      omega arith

  -- and so does the run below place c that came to word w.
  words-below : (n c w : ℕ) → n ≤ w → 32 * w ≤ c → c - 32 * w ≤ held_below ws c → AllOnes ws (w - n) n
      → c - 32 * (w - n) ≤ held_below ws c
  words-below zero c w k h l a = omega arith
  words-below (suc n) c w k h l a =
      let i = words-below n c w (omega arith) h l
      (λ j m. let e : w - n + j ≡ w - suc n + suc j = omega arith in rw e (a (suc j) (omega arith))) in
      let e : w - suc n + 0 ≡ w - n - 1 = omega arith in
      let o = ones_below (w - n) (omega arith) (rw e at (a 0 (omega arith))) in
      let m = word-more-below ws c (w - n) (omega arith) (omega arith) i o in
      let f : w - n - 1 ≡ w - suc n = omega arith in
      rw f at m

  -- The run from word w on ends in that word, if it is not all ones,
  short_word : (w d : ℕ) → get_or ws w 0 < 2 ^ 32 → get_or ws w 0 ≢ 2 ^ 32 - 1 → held_from ws d (32 * w) < 32
  short_word w d l g = elim (dec_lt d 32) [
    | yes h ↦ omega (arith, held-from_le ws d (32 * w))
    | no h ↦
        let t = bit_at-trailing_zeros w32 (2 ^ 32 - 1 - get_or ws w 0) (omega arith) (omega arith) in
        omega (arith, t.0, low-ones-word ws w d l (omega arith))
  ]

  -- or at the end of the row or of the first u bits,
  pub short_end : (w u : ℕ) → min (u / 32) (length ws) ≤ w → held_from ws (u - 32 * w) (32 * w) < 32
  short_end w u h = elim (dec_lt w (length ws)) [
    | yes l ↦ omega (arith, held-from_le ws (u - 32 * w) (32 * w))
    | no l ↦ omega (arith, from_past ws (u - 32 * w) (32 * w) (omega arith))
  ]

  -- and the run below word w in the word below it.
  short-below : (w : ℕ) → 0 < w → get_or ws (w - 1) 0 < 2 ^ 32 → get_or ws (w - 1) 0 ≢ 2 ^ 32 - 1
      → count_leading_zeros 32 (2 ^ 32 - 1 - get_or ws (w - 1) 0) ≡ held_below ws (32 * w)
  short-below w h l g =
      let t = leading_top 32 (2 ^ 32 - 1 - get_or ws (w - 1) 0) (omega arith) (omega arith) in
      omega (arith, t.1, high-ones-word ws w h l)

  -- ---- as the code has it

  module _ (fits : (i : ℕ) → get_or ws i 0 < 2 ^ 32) where
    -- From place x on, after n words of ones from word w on, all below word `end`.
    module _ (x w u n : ℕ) {end : ℕ} (h : x ≤ 32 * w) (l : 32 * w - x ≤ held_from ws (u - x) x) (e : end ≡ min (u / 32) (length ws)) where
      pub from-words : w < end → OnesInFront (take (end - w) (drop w ws)) n
          → (32 * (w + n) ≤ u) × (32 * (w + n) - x ≤ held_from ws (u - x) x) × (held_from ws (u - 32 * (w + n)) (32 * (w + n)) < 32)
      from-words k o =
          let m : length (take (end - w) (drop w ws)) ≡ end - w = length-take-le (end - w) (drop w ws) (omega (arith, length-drop w ws)) in
          let b : 32 * (w + n) ≤ u = omega (arith, o.fits) in (
            b,
            words_more n x w u h l (λ j p. let z : 0 + j ≡ j = omega arith in rw (z, part_word ws w (end - w) j (omega (arith, o.fits))) at (o.ones j p)) b,
            elim (dec_lt n (end - w)) [
              | yes q ↦ short_word (w + n) _ (fits (w + n)) (rw (part_word ws w (end - w) n q) at (o.stop (omega arith)))
              | no q ↦ short_end (w + n) u (omega (arith, o.fits))
            ],
          )

    -- Below place c, after n words of ones below word w.
    pub below-words : (c w n : ℕ) → w ≤ length ws → 32 * w ≤ c → c - 32 * w ≤ held_below ws c → OnesAtEnd (take w ws) n → c - 32 * (w - n) ≤ held_below ws c
    below-words c w n k h l o =
        let m : length (take w ws) ≡ w = length-take-le w ws k in
        words-below n c w (omega (arith, o.fits)) h l
        (λ j p. let e : length (take w ws) - n + j ≡ w - n + j = omega arith in
        rw (e, get_or-take w ws (w - n + j) 0 (omega (arith, o.fits))) at (o.ones j p))

    pub below_last : (c w n : ℕ) → w ≤ length ws → 32 * w ≤ c → c - 32 * (w - n) ≤ held_below ws c → OnesAtEnd (take w ws) n → 0 < w - n
        → c - 32 * (w - n) + count_leading_zeros 32 (2 ^ 32 - 1 - get_or ws (w - n - 1) 0) ≡ held_below ws c
    below_last c w n k h l o p =
        let m : length (take w ws) ≡ w = length-take-le w ws k in
        let e : length (take w ws) - n - 1 ≡ w - n - 1 = omega arith in
        let g = rw (e, get_or-take w ws (w - n - 1) 0 (omega arith)) at (o.stop (omega arith)) in
        omega (arith, short-below (w - n) p (fits (w - n - 1)) g, below_at ws c (32 * (w - n)) (omega arith) l)
