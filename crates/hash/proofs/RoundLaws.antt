-- What the calls of a round ensure, put together, and rounds one run after another. Assumes nothing.
use Rattle.std.proofs.Common.{◌≡◌, ℕ, zero, suc, ◌+◌, ◌%◌, ◌^◌, ◌<◌, ◌≤◌, List, [], ◌∷◌, ◌++◌, length, get_or, drop, replicate, sym, refl, ◌∙◌, le_refl, add-zero, add_assoc, add-suc, arith, get_or-append-add, ext_get_or}
use native.Mathlib.Nat.{mod-add-mod, mod-mod, add-mod-mod}
use lib.ListN.{get_or-replicate, get_or-append}
use Rattle.hash.specs.Word.{◌⊞◌, Ch, Maj, Σ0, Σ1}
use Rattle.hash.specs.Block.{K, T1, T2, turned, round, rounds, sums}
use Rattle.hash.specs.Rows.{constants, slid, Stepped, Advanced, summed_rounds}
use Rattle.hash.proofs.ScheduleLaws.{slid_sixteen}

⊞-assoc : (x y z : ℕ) → x ⊞ y ⊞ z ≡ x ⊞ (y ⊞ z)
unfolding ◌⊞◌
⊞-assoc x y z = rw (mod-add-mod (x + y) (2 ^ 32) z, add-mod-mod x (y + z) (2 ^ 32), add_assoc x y z)

-- The sums of T1, in the order of the code.
T1-is : (e f g h k w : ℕ) → h ⊞ Σ1 e ⊞ Ch e f g ⊞ (k ⊞ w) ≡ T1 e f g h k w
unfolding T1
T1-is e f g h k w = sym (⊞-assoc (h ⊞ Σ1 e ⊞ Ch e f g) k w)

pub round_law : (v : List ℕ) (k w : ℕ) {s1 x1 c1 x2 kw t1 s0 m1 t2 a e : ℕ}
    → s1 ≡ Σ1 (get_or v 4 0)
    → x1 ≡ get_or v 7 0 ⊞ s1
    → c1 ≡ Ch (get_or v 4 0) (get_or v 5 0) (get_or v 6 0)
    → x2 ≡ x1 ⊞ c1
    → kw ≡ k ⊞ w
    → t1 ≡ x2 ⊞ kw
    → s0 ≡ Σ0 (get_or v 0 0)
    → m1 ≡ Maj (get_or v 0 0) (get_or v 1 0) (get_or v 2 0)
    → t2 ≡ s0 ⊞ m1
    → a ≡ t1 ⊞ t2
    → e ≡ get_or v 3 0 ⊞ t1
    → a ∷ get_or v 0 0 ∷ get_or v 1 0 ∷ get_or v 2 0 ∷ e ∷ get_or v 4 0 ∷ get_or v 5 0 ∷ get_or v 6 0 ∷ [] ≡ round v k w
unfolding turned round T2
round_law v k w e1 e2 e3 e4 e5 e6 e7 e8 e9 e10 e11 =
    rw (e10, e11, e9, e8, e7, e6, e5, e4, e3, e2, e1, T1-is (get_or v 4 0) (get_or v 5 0) (get_or v 6 0) (get_or v 7 0) k w)

get_or-sums : (v u : List ℕ) (i : ℕ) → i < 8 → get_or (sums v u) i 0 ≡ get_or v i 0 ⊞ get_or u i 0
unfolding sums
get_or-sums v u zero h = refl
get_or-sums v u (suc zero) h = refl
get_or-sums v u (suc (suc zero)) h = refl
get_or-sums v u (suc (suc (suc zero))) h = refl
get_or-sums v u (suc (suc (suc (suc zero)))) h = refl
get_or-sums v u (suc (suc (suc (suc (suc zero))))) h = refl
get_or-sums v u (suc (suc (suc (suc (suc (suc zero)))))) h = refl
get_or-sums v u (suc (suc (suc (suc (suc (suc (suc zero))))))) h = refl
get_or-sums v u (suc (suc (suc (suc (suc (suc (suc (suc i)))))))) h = absurd (omega arith)

sums-length : (v u : List ℕ) → length (sums v u) ≡ 8
unfolding sums
sums-length v u = refl

pub sums_law : (v u w : List ℕ) → length w ≡ 8 → ((i : ℕ) → i < 8 → get_or w i 0 ≡ get_or v i 0 ⊞ get_or u i 0) → w ≡ sums v u
sums_law v u w l a =
    ext_get_or 0 w (sums v u) (l ∙ sym (sums-length v u)) (λ i h. a i (omega arith) ∙ sym (get_or-sums v u i (omega arith)))

-- t rounds look at t constants and t words
rounds-front : (t : ℕ) (v k k' w w' : List ℕ) → t ≤ length k → t ≤ length w → rounds t v (k ++ k') (w ++ w') ≡ rounds t v k w
unfolding rounds
rounds-front zero v k k' w w' p q = refl
rounds-front (suc t) v k k' w w' p q =
    rw (get_or-append k k' 0 t p, get_or-append w w' 0 t q, rounds-front t v k k' w w' (omega arith) (omega arith))

rounds-past : (t : ℕ) (v k k' w w' : List ℕ) → length w ≡ length k → rounds (length k + t) v (k ++ k') (w ++ w') ≡ rounds t (rounds (length k) v k w) k' w'
unfolding rounds
rounds-past zero v k k' w w' e = rw add-zero (rounds-front (length k) v k k' w w' (le_refl _) (omega arith))
rounds-past (suc t) v k k' w w' e =
    let g : get_or (w ++ w') (length k + t) 0 ≡ get_or w' t 0 = rw (← e) (get_or-append-add w w' t 0) in
    rw (add-suc, get_or-append-add k k' t 0, g, rounds-past t v k k' w w' e)

-- i runs of sixteen rounds, with a row of words for each.
abbrev pub runs : ℕ → List ℕ → (ℕ → List ℕ) → List ℕ
runs zero v w = v
runs (suc i) v w = rounds 16 (runs i v w) (constants i) (w i)

-- Sixty-four rounds as four runs of sixteen.
pub four_runs : (v : List ℕ) (w : ℕ → List ℕ) → length (w 0) ≡ 16 → length (w 1) ≡ 16 → length (w 2) ≡ 16
    → rounds 64 v K (w 0 ++ (w 1 ++ (w 2 ++ w 3))) ≡ runs 4 v w
four_runs v w l0 l1 l2 =
    rounds-past 48 v (constants 0) (drop 16 K) (w 0) (w 1 ++ (w 2 ++ w 3)) l0
    ∙ rounds-past 32 _ (constants 1) (drop 32 K) (w 1) (w 2 ++ w 3) l1
    ∙ rounds-past 16 _ (constants 2) (drop 48 K) (w 2) (w 3) l2

-- Sixteen rounds by sixteen calls.
pub rounds_law : (v k w : List ℕ) {v1 v2 v3 v4 v5 v6 v7 v8 v9 v10 v11 v12 v13 v14 v15 v16 : List ℕ}
    → v1 ≡ round v (get_or k 0 0) (get_or w 0 0)
    → v2 ≡ round v1 (get_or k 1 0) (get_or w 1 0)
    → v3 ≡ round v2 (get_or k 2 0) (get_or w 2 0)
    → v4 ≡ round v3 (get_or k 3 0) (get_or w 3 0)
    → v5 ≡ round v4 (get_or k 4 0) (get_or w 4 0)
    → v6 ≡ round v5 (get_or k 5 0) (get_or w 5 0)
    → v7 ≡ round v6 (get_or k 6 0) (get_or w 6 0)
    → v8 ≡ round v7 (get_or k 7 0) (get_or w 7 0)
    → v9 ≡ round v8 (get_or k 8 0) (get_or w 8 0)
    → v10 ≡ round v9 (get_or k 9 0) (get_or w 9 0)
    → v11 ≡ round v10 (get_or k 10 0) (get_or w 10 0)
    → v12 ≡ round v11 (get_or k 11 0) (get_or w 11 0)
    → v13 ≡ round v12 (get_or k 12 0) (get_or w 12 0)
    → v14 ≡ round v13 (get_or k 13 0) (get_or w 13 0)
    → v15 ≡ round v14 (get_or k 14 0) (get_or w 14 0)
    → v16 ≡ round v15 (get_or k 15 0) (get_or w 15 0)
    → v16 ≡ rounds 16 v k w
unfolding rounds
rounds_law v k w e0 e1 e2 e3 e4 e5 e6 e7 e8 e9 e10 e11 e12 e13 e14 e15 = rw (e15, e14, e13, e12, e11, e10, e9, e8, e7, e6, e5, e4, e3, e2, e1, e0)

-- Sixteen rounds by sixteen steps.
pub steps_law : (v k w : List ℕ) → length w ≡ 16
    → {v1 v2 v3 v4 v5 v6 v7 v8 v9 v10 v11 v12 v13 v14 v15 v16 w1 w2 w3 w4 w5 w6 w7 w8 w9 w10 w11 w12 w13 w14 w15 w16 : List ℕ}
    → Stepped (get_or k 0 0) v w v1 w1
    → Stepped (get_or k 1 0) v1 w1 v2 w2
    → Stepped (get_or k 2 0) v2 w2 v3 w3
    → Stepped (get_or k 3 0) v3 w3 v4 w4
    → Stepped (get_or k 4 0) v4 w4 v5 w5
    → Stepped (get_or k 5 0) v5 w5 v6 w6
    → Stepped (get_or k 6 0) v6 w6 v7 w7
    → Stepped (get_or k 7 0) v7 w7 v8 w8
    → Stepped (get_or k 8 0) v8 w8 v9 w9
    → Stepped (get_or k 9 0) v9 w9 v10 w10
    → Stepped (get_or k 10 0) v10 w10 v11 w11
    → Stepped (get_or k 11 0) v11 w11 v12 w12
    → Stepped (get_or k 12 0) v12 w12 v13 w13
    → Stepped (get_or k 13 0) v13 w13 v14 w14
    → Stepped (get_or k 14 0) v14 w14 v15 w15
    → Stepped (get_or k 15 0) v15 w15 v16 w16
    → Advanced k v w v16 w16
unfolding rounds slid
steps_law v k w l s0 s1 s2 s3 s4 s5 s6 s7 s8 s9 s10 s11 s12 s13 s14 s15 = record {
  variables = rw (s15.variables, s14.variables, s13.variables, s12.variables, s11.variables, s10.variables, s9.variables, s8.variables, s7.variables, s6.variables, s5.variables, s4.variables, s3.variables, s2.variables, s1.variables, s0.variables, s14.schedule, s13.schedule, s12.schedule, s11.schedule, s10.schedule, s9.schedule, s8.schedule, s7.schedule, s6.schedule, s5.schedule, s4.schedule, s3.schedule, s2.schedule, s1.schedule, s0.schedule);
  schedule = rw (s15.schedule, s14.schedule, s13.schedule, s12.schedule, s11.schedule, s10.schedule, s9.schedule, s8.schedule, s7.schedule, s6.schedule, s5.schedule, s4.schedule, s3.schedule, s2.schedule, s1.schedule, s0.schedule) (slid_sixteen w l);
}

-- ---- rounds given the sums of their constants and words

⊞-zero : (x y : ℕ) → x ⊞ y ⊞ 0 ≡ x ⊞ y
unfolding ◌⊞◌
⊞-zero x y = rw (add-zero ((x + y) % 2 ^ 32), mod-mod (x + y) (2 ^ 32))

round-summed : (v : List ℕ) (k w : ℕ) → round v (k ⊞ w) 0 ≡ round v k w
unfolding turned round T1
round-summed v k w =
    let x : ℕ = get_or v 7 0 ⊞ Σ1 (get_or v 4 0) ⊞ Ch (get_or v 4 0) (get_or v 5 0) (get_or v 6 0) in
    rw (⊞-zero x (k ⊞ w), ← (⊞-assoc x k w))

-- The sums of two lists, element by element.
abbrev pub summed : List ℕ → List ℕ → List ℕ
summed [] w = []
summed (k ∷ ks) [] = []
summed (k ∷ ks) (w ∷ ws) = (k ⊞ w) ∷ summed ks ws

get_or-summed : (k w : List ℕ) (i : ℕ) → i < length k → i < length w → get_or (summed k w) i 0 ≡ get_or k i 0 ⊞ get_or w i 0
get_or-summed [] w i h l = absurd (omega arith)
get_or-summed (k ∷ ks) [] i h l = absurd (omega arith)
get_or-summed (k ∷ ks) (w ∷ ws) zero h l = refl
get_or-summed (k ∷ ks) (w ∷ ws) (suc i) h l = get_or-summed ks ws i (omega arith) (omega arith)

rounds-summed : (t : ℕ) (v k w : List ℕ) → t ≤ 16 → length k ≡ 16 → length w ≡ 16 → rounds t v (summed k w) (replicate 16 0) ≡ rounds t v k w
unfolding rounds
rounds-summed zero v k w h lk lw = refl
rounds-summed (suc t) v k w h lk lw =
    rw (rounds-summed t v k w (omega arith) lk lw, get_or-summed k w t (omega arith) (omega arith), get_or-replicate {A = ℕ} 16 t 0 0 h)
    (round-summed (rounds t v k w) (get_or k t 0) (get_or w t 0))

pub summed-rounds : (v k w : List ℕ) → length k ≡ 16 → length w ≡ 16 → summed_rounds v (summed k w) ≡ rounds 16 v k w
unfolding summed_rounds
summed-rounds v k w lk lw = rounds-summed 16 v k w (le_refl 16) lk lw

-- Sixteen of them by sixteen calls.
pub summed-rounds_law : (v s : List ℕ) {v1 v2 v3 v4 v5 v6 v7 v8 v9 v10 v11 v12 v13 v14 v15 v16 : List ℕ}
    → v1 ≡ round v (get_or s 0 0) 0
    → v2 ≡ round v1 (get_or s 1 0) 0
    → v3 ≡ round v2 (get_or s 2 0) 0
    → v4 ≡ round v3 (get_or s 3 0) 0
    → v5 ≡ round v4 (get_or s 4 0) 0
    → v6 ≡ round v5 (get_or s 5 0) 0
    → v7 ≡ round v6 (get_or s 6 0) 0
    → v8 ≡ round v7 (get_or s 7 0) 0
    → v9 ≡ round v8 (get_or s 8 0) 0
    → v10 ≡ round v9 (get_or s 9 0) 0
    → v11 ≡ round v10 (get_or s 10 0) 0
    → v12 ≡ round v11 (get_or s 11 0) 0
    → v13 ≡ round v12 (get_or s 12 0) 0
    → v14 ≡ round v13 (get_or s 13 0) 0
    → v15 ≡ round v14 (get_or s 14 0) 0
    → v16 ≡ round v15 (get_or s 15 0) 0
    → v16 ≡ summed_rounds v s
unfolding summed_rounds
summed-rounds_law v s e0 e1 e2 e3 e4 e5 e6 e7 e8 e9 e10 e11 e12 e13 e14 e15 = rounds_law v s (replicate 16 0) e0 e1 e2 e3 e4 e5 e6 e7 e8 e9 e10 e11 e12 e13 e14 e15
