-- The least tree with at least N leaves. Assumes nothing.
use Rattle.std.proofs.Common.{◌≡◌, ℕ, zero, suc, ◌+◌, ◌-◌, ◌*◌, ◌^◌, ◌<◌, ◌≤◌, leb, ◌⊎◌, ◌∙◌, inl, inr, pow-suc, arith, pow_pos, pow_mono, le-leb, leb-false, leb-true}
use lib.Count.{count_leading_zeros, leading_length}
use Rattle.tree.specs.Pack.{levels, leaf_places}
use Rattle.tree.proofs.NodeLaws.{split}
use Rattle.tree.proofs.LeastLaws.{Least, least_finds}
use Rattle.tree.proofs.BinLaws.{below-pow}

-- ---- the least tree

levels_found : (N : ℕ) → Least (λ h. leb N (2 ^ h)) 0 N (levels N)
unfolding levels
levels_found N = least_finds (λ h. leb N (2 ^ h)) N (le-leb N (2 ^ N) (omega (arith, below-pow N))) N 0 (omega arith) (omega arith)

pub levels-holds : (N : ℕ) → N ≤ 2 ^ levels N
levels-holds N = leb-true N (2 ^ levels N) (levels_found N).passes

pub levels-least : (N h : ℕ) → h < levels N → 2 ^ h < N
levels-least N h l = leb-false N (2 ^ h) ((levels_found N).before h (omega arith) l)

-- fewer chunks have no higher tree
pub levels_mono : (M N : ℕ) → M ≤ N → levels M ≤ levels N
levels_mono M N h = go (split (levels M) (levels N))
  where
    go : (levels M ≤ levels N) ⊎ (levels N < levels M) → levels M ≤ levels N
    go (inl l) = l
    go (inr l) = absurd (omega (arith, levels-least M (levels N) l, levels-holds N))

-- the height at which a count from 0 stops
pub levels_unique : (N h : ℕ) → N ≤ 2 ^ h → ((k : ℕ) → k < h → 2 ^ k < N) → h ≡ levels N
levels_unique N h e l = go (split h (levels N)) (split (levels N) h)
  where
    go : (h ≤ levels N) ⊎ (levels N < h) → (levels N ≤ h) ⊎ (h < levels N) → h ≡ levels N
    go (inl p) (inl q) = omega arith
    go (inl p) (inr q) = absurd (omega (arith, levels-least N h q))
    go (inr p) q = absurd (omega (arith, l (levels N) p, levels-holds N))

-- One leaf, or none, needs no height,
pub levels-none : (N : ℕ) → N < 2 → 0 ≡ levels N
levels-none N h = levels_unique N 0 (omega arith) (λ k l. absurd (omega arith))

-- and the height for more is the length of N - 1 in binary digits.
levels_over : (N : ℕ) → 2 ≤ N → N < 2 ^ 32 → 32 - count_leading_zeros 32 (N - 1) ≡ levels N
levels_over N l h =
    let s = leading_length 32 (N - 1) (omega arith) in
    let e : 32 - count_leading_zeros 32 (N - 1) ≡ s.0 = omega (arith, s.1) in
    e ∙ levels_unique N s.0 (omega (arith, s.2)) (λ k b. lower s.0 k b s.3)
  where
    lower : (m k : ℕ) → k < m → 2 ^ m ≤ 2 * (N - 1) + 1 → 2 ^ k < N
    lower m k b t = let p = pow_mono b in omega (arith, p, t, pow-suc 2 k)

pub levels_leading : (N : ℕ) → N < 2 ^ 32 → 32 - count_leading_zeros 32 (N - 1) ≡ levels N
unfolding count_leading_zeros
levels_leading zero h = levels-none zero (omega arith)
levels_leading (suc zero) h = levels-none (suc zero) (omega arith)
levels_leading (suc (suc n)) h = levels_over (suc (suc n)) (omega arith) h

-- no whole node is higher than the tree
pub high_bound : (N p : ℕ) → 2 ^ p ≤ N → p ≤ levels N
high_bound N p w = go (split p (levels N))
  where
    go : (p ≤ levels N) ⊎ (levels N < p) → p ≤ levels N
    go (inl h) = h
    go (inr h) = absurd (omega (arith, levels-holds N, pow_mono h, pow_pos (levels N)))

-- at most 2 ^ k chunks have no tree higher than k, and no more leaf places
pub levels_small : (k N : ℕ) → N ≤ 2 ^ k → levels N ≤ k
levels_small k N h = go (split (levels N) k)
  where
    go : (levels N ≤ k) ⊎ (k < levels N) → levels N ≤ k
    go (inl l) = l
    go (inr l) = absurd (omega (arith, levels-least N k l))

pub places_small : (k N w : ℕ) → w ≡ leaf_places N → N ≤ 2 ^ k → w ≤ 2 ^ k
places_small k N w e h = rw e (pow_mono (levels_small k N h))
