-- The list of the peaks, and the test for one. Assumes nothing.
use Rattle.std.proofs.Common.{◌≡◌, ℕ, zero, suc, ◌+◌, ◌/◌, ◌%◌, ◌^◌, ◌<◌, ◌≤◌, Bool, true, false, eqb, ltb, leb, ◌⊎◌, [], ◌∷◌, ◌++◌, sym, refl, ◌∙◌, inl, inr, true≢false, arith, ltb-true, lt-ltb, eqb-true, le-leb, leb-true}
use borrow.Author.Tests.{eqb-false}
use Rattle.base.specs.Pick.{pick}
use Rattle.tree.specs.Node.{Node, node, above}
use Rattle.tree.specs.Pack.{levels}
use Rattle.tree.specs.Peaks.{peaks, peak_height}
use Rattle.tree.specs.State.{is_peak}
use Rattle.tree.specs.Verdicts.{every, Each}
use Rattle.tree.specs.Steps.{peak_at}
use Rattle.tree.proofs.Below.{peaks_below}
use Rattle.base.proofs.PickLaws.{both_true}
use Rattle.tree.proofs.NodeLaws.{split, above_in, above-left, above-right, unique, above_aligned, parent_above, aligned_left, child_cases}
use Rattle.tree.proofs.EachLaws.{every_each}
use Rattle.tree.proofs.PackLaws.{high_bound}
use Rattle.tree.proofs.PeakLaws.{peaks_bits, peak_of}

-- ---- the list of the peaks, and the test for one

pub peak-bit : (N h b : ℕ) → above h b ≡ b → is_peak N h b ≡ true → (N / 2 ^ h % 2 ≡ 1) × (b ≡ above (suc h) N)
peak-bit N h b e p =
    let g = both_true (leb (b + 2 ^ h) N) (ltb N (above (suc h) b + 2 ^ suc h)) p in
    go (leb-true (b + 2 ^ h) N g.0) (ltb-true N (above (suc h) b + 2 ^ suc h) g.1) (child_cases h b e)
  where
    go : b + 2 ^ h ≤ N → N < above (suc h) b + 2 ^ suc h → (b ≡ above (suc h) b) ⊎ (b ≡ above (suc h) b + 2 ^ h)
        → (N / 2 ^ h % 2 ≡ 1) × (b ≡ above (suc h) N)
    go w o (inr q) = absurd (omega arith)
    go w o (inl q) =
        let u = unique (suc h) (above (suc h) b) N (above_aligned (suc h) b) (omega (arith, above_in (suc h) b)) o in
        (bit (N / 2 ^ h % 2) refl (q ∙ sym u), q ∙ sym u)
      where
        bit : (x : ℕ) → N / 2 ^ h % 2 ≡ x → b ≡ above (suc h) N → N / 2 ^ h % 2 ≡ 1
        bit zero f v = absurd (omega (arith, above-left h N f, above_in h N))
        bit (suc x) f v = omega arith

pub bit-peak : (N h : ℕ) → N / 2 ^ h % 2 ≡ 1 → (above h (above (suc h) N) ≡ above (suc h) N) × (is_peak N h (above (suc h) N) ≡ true)
bit-peak N h f =
    let a = above_aligned (suc h) N in (
      aligned_left h (above (suc h) N) a,
      rw (le-leb (above (suc h) N + 2 ^ h) N (omega (arith, above-right h N f, above_in h N)), a, lt-ltb N (above (suc h) N + 2 ^ suc h) (above_in (suc h) N).1),
    )

both_false : (b x : Bool) → pick b x false ≡ false → (b ≡ false) ⊎ (x ≡ false)
both_false true x e = inr e
both_false false x e = inl refl

each_bit : (P : Node → Type 0) (N k : ℕ) → Each P (peaks_below N k) → (h : ℕ) → h < k → N / 2 ^ h % 2 ≡ 1 → P (peak_at N h)
unfolding peaks_below
each_bit P N zero e h l b = absurd (omega arith)
each_bit P N (suc k) e h l b = go (eqb (N / 2 ^ k % 2) 1) refl e (split k h) (each_bit P N k)
  where
    go : (t : Bool) → eqb (N / 2 ^ k % 2) 1 ≡ t → Each P (pick t (peak_at N k ∷ []) [] ++ peaks_below N k) → (k ≤ h) ⊎ (h < k)
        → (Each P (peaks_below N k) → (h : ℕ) → h < k → N / 2 ^ h % 2 ≡ 1 → P (peak_at N h)) → P (peak_at N h)
    go true q e (inl u) ih = let z : h ≡ k = omega arith in rw z e.0
    go true q e (inr u) ih = ih e.1 h u b
    go false q e (inl u) ih = let z : h ≡ k = omega arith in absurd (eqb-false (N / 2 ^ k % 2) 1 q (rw z at b))
    go false q e (inr u) ih = ih e h u b

pub some_bits : (f : Node → Bool) (N k : ℕ) → every f (peaks_below N k) ≡ false → (h : ℕ) × (N / 2 ^ h % 2 ≡ 1) × (f (peak_at N h) ≡ false)
unfolding every peaks_below
some_bits f N zero e = absurd (true≢false e)
some_bits f N (suc k) e = go (eqb (N / 2 ^ k % 2) 1) refl e (some_bits f N k)
  where
    pair : N / 2 ^ k % 2 ≡ 1 → (every f (peaks_below N k) ≡ false → (h : ℕ) × (N / 2 ^ h % 2 ≡ 1) × (f (peak_at N h) ≡ false))
        → (f (peak_at N k) ≡ false) ⊎ (every f (peaks_below N k) ≡ false) → (h : ℕ) × (N / 2 ^ h % 2 ≡ 1) × (f (peak_at N h) ≡ false)
    pair b ih (inl g) = (k, b, g)
    pair b ih (inr g) = ih g

    go : (t : Bool) → eqb (N / 2 ^ k % 2) 1 ≡ t → every f (pick t (peak_at N k ∷ []) [] ++ peaks_below N k) ≡ false
        → (every f (peaks_below N k) ≡ false → (h : ℕ) × (N / 2 ^ h % 2 ≡ 1) × (f (peak_at N h) ≡ false))
        → (h : ℕ) × (N / 2 ^ h % 2 ≡ 1) × (f (peak_at N h) ≡ false)
    go true q e ih = pair (eqb-true (N / 2 ^ k % 2) 1 q) ih (both_false (f (peak_at N k)) (every f (peaks_below N k)) e)
    go false q e ih = ih e

-- what holds of each peak in the list holds of each node that passes the test,
pub each_peak : (P : Node → Type 0) (N : ℕ) → Each P (peaks N) → (h b : ℕ) → above h b ≡ b → is_peak N h b ≡ true → P (node h b)
each_peak P N e h b g p =
    let q = peak-bit N h b g p in
    let w = (both_true (leb (b + 2 ^ h) N) (ltb N (above (suc h) b + 2 ^ suc h)) p).0 in
    let l = high_bound N h (omega (arith, leb-true (b + 2 ^ h) N w)) in
    rw q.1 (each_bit P N (suc (levels N)) (rw peaks_bits at e) h (omega arith) q.0)

pub all-peaks : (f : Node → Bool) (N : ℕ) → every f (peaks N) ≡ true → (h b : ℕ) → above h b ≡ b → is_peak N h b ≡ true → f (node h b) ≡ true
all-peaks f N e = each_peak (λ n. f n ≡ true) N (every_each f (peaks N) e)

pub peak-test : (N c : ℕ) → c < N → is_peak N (peak_height N c) (above (peak_height N c) c) ≡ true
peak-test N c l =
    let k = peak_of N c l in
    let p = peak_height N c in
    let w : above p c + 2 ^ p ≤ N = k.whole in
    rw (le-leb (above p c + 2 ^ p) N w, parent_above p c, lt-ltb N (above (suc p) c + 2 ^ suc p) k.highest)
