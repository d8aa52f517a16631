-- A pack of L bytes in chunks of S: where each chunk lies, how long it is, and that the chunks make up the pack. Assumes nothing.
use Rattle.std.proofs.Common.{◌≡◌, ℕ, suc, ◌+◌, ◌-◌, ◌*◌, ◌/◌, ◌%◌, ◌<◌, ◌≤◌, ◌⊎◌, List, length, get_or, take, drop, sym, ap, ◌∙◌, inl, inr, mod-lt, suc-mul, mul_comm, div-add-mod', le-div_iff_mul-le, mul-suc, arith, length-take-le, get_or-drop, get_or-take, ext_get_or}
use Rattle.tree.specs.Pack.{chunks, size, part}
use Rattle.tree.proofs.NodeLaws.{split}

module _ (S L : ℕ) (pos : 0 < S) where
  -- chunk c is one of the pack exactly where it starts within it
  pub chunk_starts : (c : ℕ) → c < chunks S L → S * c < L
  chunk_starts c l =
      let m : suc c * S ≤ L + (S - 1) = (le-div_iff_mul-le pos).0 l in
      let e : suc c * S ≡ S * c + S = suc-mul c S ∙ ap (λ (x : ℕ). x + S) (mul_comm c S) in
      omega (arith, m, e)

  pub starts-chunk : (c : ℕ) → S * c < L → c < chunks S L
  starts-chunk c l =
      let e : suc c * S ≡ S * c + S = suc-mul c S ∙ ap (λ (x : ℕ). x + S) (mul_comm c S) in
      (le-div_iff_mul-le pos).1 (omega (arith, e))

  -- it lies within the pack, and has 1 to S bytes,
  pub chunk_inside : (c : ℕ) → c < chunks S L → S * c + size S L c ≤ L
  chunk_inside c l = omega (arith, chunk_starts c l)

  pub chunk_some : (c : ℕ) → c < chunks S L → (0 < size S L c) × (size S L c ≤ S)
  chunk_some c l = omega (arith, chunk_starts c l)

  -- S but for the last,
  pub chunk-full : (c : ℕ) → suc c < chunks S L → size S L c ≡ S
  chunk-full c l =
      let e : S * suc c ≡ S * c + S = mul-suc S c in
      omega (arith, chunk_starts (suc c) l, e)

  -- which ends the pack.
  pub chunk-last : (c : ℕ) → suc c ≡ chunks S L → S * c + size S L c ≡ L
  chunk-last c q = go (split L (S * suc c))
    where
      go : (L ≤ S * suc c) ⊎ (S * suc c < L) → S * c + size S L c ≡ L
      go (inl h) = let e : S * suc c ≡ S * c + S = mul-suc S c in omega (arith, e, chunk_starts c (omega arith))
      go (inr h) = absurd (omega (arith, starts-chunk (suc c) h))

  -- byte i of the pack is byte i % S of its chunk i / S
  byte-place : (i : ℕ) → i < L → (i / S < chunks S L) × (i % S < size S L (i / S)) × (S * (i / S) + i % S ≡ i)
  byte-place i l =
      let e : S * (i / S) + i % S ≡ i = ap (λ (x : ℕ). x + i % S) (mul_comm S (i / S)) ∙ div-add-mod' i S in
      (starts-chunk (i / S) (omega (arith, e)), omega (arith, e, mod-lt i pos), e)

  byte_of : (s : List ℕ) (i : ℕ) → i < L → get_or (take L s) i 0 ≡ get_or (part S L s (i / S)) (i % S) 0
  byte_of s i l =
      let p = byte-place i l in
      get_or-take L s i 0 l
      ∙ sym (get_or-take (size S L (i / S)) (drop (S * (i / S)) s) (i % S) 0 p.1 ∙ get_or-drop (S * (i / S)) s (i % S) 0 ∙ ap (λ (k : ℕ). get_or s k 0) p.2)

  -- two packs with the same chunks have the same bytes
  pub parts-alike : (s t : List ℕ) → L ≤ length s → L ≤ length t → ((x : ℕ) → x < chunks S L → part S L s x ≡ part S L t x) → take L s ≡ take L t
  parts-alike s t hs ht e =
      ext_get_or 0 (take L s) (take L t) (length-take-le L s hs ∙ sym (length-take-le L t ht))
      (λ i l.
      let k : i < L = omega (arith, l, length-take-le L s hs) in
      byte_of s i k ∙ ap (λ (c : List ℕ). get_or c (i % S) 0) (e (i / S) (byte-place i k).0) ∙ sym (byte_of t i k))
