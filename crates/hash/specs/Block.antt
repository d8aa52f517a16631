-- FIPS 180-4, sections 4.2.2 and 6.2.2: the hash value after one block of 64 bytes.
-- A hash value, and the working variables a to h, are lists of eight words. Assumes nothing.
use Rattle.std.specs.Prelude.{ℕ, zero, suc, ◌-◌, List, [], ◌∷◌, ◌++◌, length, slice_index, slice_index_or}
use Rattle.hash.specs.Word.{◌⊞◌, Ch, Maj, Σ0, Σ1, σ0, σ1, words}

-- 4.2.2: the constants.
abbrev pub K : List ℕ
K =
    0x428a_2f98 ∷ 0x7137_4491 ∷ 0xb5c0_fbcf ∷ 0xe9b5_dba5 ∷ 0x3956_c25b ∷ 0x59f1_11f1 ∷ 0x923f_82a4 ∷ 0xab1c_5ed5 ∷
    0xd807_aa98 ∷ 0x1283_5b01 ∷ 0x2431_85be ∷ 0x550c_7dc3 ∷ 0x72be_5d74 ∷ 0x80de_b1fe ∷ 0x9bdc_06a7 ∷ 0xc19b_f174 ∷
    0xe49b_69c1 ∷ 0xefbe_4786 ∷ 0x0fc1_9dc6 ∷ 0x240c_a1cc ∷ 0x2de9_2c6f ∷ 0x4a74_84aa ∷ 0x5cb0_a9dc ∷ 0x76f9_88da ∷
    0x983e_5152 ∷ 0xa831_c66d ∷ 0xb003_27c8 ∷ 0xbf59_7fc7 ∷ 0xc6e0_0bf3 ∷ 0xd5a7_9147 ∷ 0x06ca_6351 ∷ 0x1429_2967 ∷
    0x27b7_0a85 ∷ 0x2e1b_2138 ∷ 0x4d2c_6dfc ∷ 0x5338_0d13 ∷ 0x650a_7354 ∷ 0x766a_0abb ∷ 0x81c2_c92e ∷ 0x9272_2c85 ∷
    0xa2bf_e8a1 ∷ 0xa81a_664b ∷ 0xc24b_8b70 ∷ 0xc76c_51a3 ∷ 0xd192_e819 ∷ 0xd699_0624 ∷ 0xf40e_3585 ∷ 0x106a_a070 ∷
    0x19a4_c116 ∷ 0x1e37_6c08 ∷ 0x2748_774c ∷ 0x34b0_bcb5 ∷ 0x391c_0cb3 ∷ 0x4ed8_aa4a ∷ 0x5b9c_ca4f ∷ 0x682e_6ff3 ∷
    0x748f_82ee ∷ 0x78a5_636f ∷ 0x84c8_7814 ∷ 0x8cc7_0208 ∷ 0x90be_fffa ∷ 0xa450_6ceb ∷ 0xbef9_a3f7 ∷ 0xc671_78f2 ∷ []

-- 6.2.2, step 1: W t from W (t - 2), W (t - 7), W (t - 15) and W (t - 16).
unfoldable pub next : (w2 w7 w15 w16 : ℕ) → ℕ
next w2 w7 w15 w16 = σ1 w2 ⊞ w7 ⊞ σ0 w15 ⊞ w16

-- 6.2.2, step 1: a schedule so far, and n words more.
unfoldable pub extended : ℕ → List ℕ → List ℕ
extended zero w = w
extended (suc n) w =
    let t = length w in
    extended n (w ++ (next (slice_index w (t - 2)) (slice_index w (t - 7)) (slice_index w (t - 15)) (slice_index w (t - 16)) ∷ []))

-- 6.2.2, step 1: the 64 words of the schedule of a block's sixteen.
unfoldable pub schedule : List ℕ → List ℕ
schedule w = extended 48 w

-- 6.2.2, step 3.
unfoldable pub T1 : (e f g h k w : ℕ) → ℕ
T1 e f g h k w = h ⊞ Σ1 e ⊞ Ch e f g ⊞ k ⊞ w

-- 6.2.2, step 3.
unfoldable pub T2 : (a b c : ℕ) → ℕ
T2 a b c = Σ0 a ⊞ Maj a b c

-- 6.2.2, step 3: the working variables after one round, with its constant and its word.
unfoldable pub turned : (a b c d e f g h : ℕ) → (k w : ℕ) → List ℕ
turned a b c d e f g h k w = (T1 e f g h k w ⊞ T2 a b c) ∷ a ∷ b ∷ c ∷ (d ⊞ T1 e f g h k w) ∷ e ∷ f ∷ g ∷ []

-- 6.2.2, step 3: the same on a list of the eight.
unfoldable pub round : List ℕ → (k w : ℕ) → List ℕ
round v = turned (slice_index v 0) (slice_index v 1) (slice_index v 2) (slice_index v 3) (slice_index v 4) (slice_index v 5) (slice_index v 6) (slice_index v 7)

-- 6.2.2, step 3: t rounds, with the constants k and the words w.
unfoldable pub rounds : ℕ → List ℕ → (k w : List ℕ) → List ℕ
rounds zero v k w = v
rounds (suc t) v k w = round (rounds t v k w) (slice_index k t) (slice_index w t)

-- 6.2.2, step 4: the sums of two lists of eight words, word by word.
unfoldable pub sums : List ℕ → List ℕ → List ℕ
sums v u =
    (slice_index_or v 0 0 ⊞ slice_index_or u 0 0) ∷ (slice_index_or v 1 0 ⊞ slice_index_or u 1 0) ∷ (slice_index_or v 2 0 ⊞ slice_index_or u 2 0) ∷ (slice_index_or v 3 0 ⊞ slice_index_or u 3 0) ∷
    (slice_index_or v 4 0 ⊞ slice_index_or u 4 0) ∷ (slice_index_or v 5 0 ⊞ slice_index_or u 5 0) ∷ (slice_index_or v 6 0 ⊞ slice_index_or u 6 0) ∷ (slice_index_or v 7 0 ⊞ slice_index_or u 7 0) ∷ []

-- 6.2.2, steps 2 to 4: the hash value after the hash value v and a block's schedule w.
unfoldable pub mixed : List ℕ → List ℕ → List ℕ
mixed v w = sums v (rounds 64 v K w)

-- 6.2.2: the hash value after the hash value v and the block b.
unfoldable pub compressed : List ℕ → List ℕ → List ℕ
compressed v b = mixed v (schedule (words 16 b))
