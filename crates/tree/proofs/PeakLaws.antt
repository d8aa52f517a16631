-- The peaks of N: they tile 0..N-1, there is one for each one bit of N, each chunk is below one; and combining them. Assumes nothing.
use Rattle.std.proofs.Common.{◌≡◌, ℕ, zero, suc, ◌+◌, ◌/◌, ◌%◌, ◌^◌, ◌<◌, ◌≤◌, false, eqb, ltb, leb, ◌≢◌, ◌⊎◌, List, [], ◌∷◌, ◌++◌, sym, refl, ap, ◌∙◌, ap₂, inl, inr, eq-or-lt_of_le, pow-suc, arith, pow_pos, ltb-false, ltb-true, lt-ltb, eq-eqb, ne_eqb, le-leb}
use borrow.Author.Tests.{lt-leb}
use Rattle.base.specs.Pick.{pick}
use Rattle.tree.specs.Node.{Node, node, above}
use Rattle.tree.specs.Pack.{levels}
use Rattle.tree.specs.Peaks.{peaks_from, peaks, peak_height}
use Rattle.tree.specs.Tree.{given}
use Rattle.tree.specs.Steps.{folded}
use Rattle.tree.proofs.Below.{peaks_below}
use Rattle.tree.proofs.NodeLaws.{split, above_in, above-left, above-right, above-top, above_zero}
use Rattle.tree.proofs.LeastLaws.{Least, least_finds}
use Rattle.tree.proofs.PackLaws.{levels-holds}
use Rattle.tree.proofs.TreeLaws.{given-empty, given-whole, given-mixed}

-- ---- the chunks from a up to b, in order, without gap or overlap

pub data Tiles : ℕ → ℕ → List Node → Type 0 where
  done : {a : ℕ} → Tiles a a []
  next : {h a b : ℕ} {ns : List Node} → Tiles (a + 2 ^ h) b ns → Tiles a b (node h a ∷ ns)

tile_from : (N h a : ℕ) → a ≤ N → N < a + 2 ^ h → Tiles a N (peaks_from N h a)
unfolding peaks_from
tile_from N zero a l u = let e : a ≡ N = omega arith in rw e done
tile_from N (suc h) a l u = go (split (a + 2 ^ h) N) (tile_from N h (a + 2 ^ h)) (tile_from N h a)
  where
    go : (a + 2 ^ h ≤ N) ⊎ (N < a + 2 ^ h)
        → (a + 2 ^ h ≤ N → N < a + 2 ^ h + 2 ^ h → Tiles (a + 2 ^ h) N (peaks_from N h (a + 2 ^ h)))
        → (a ≤ N → N < a + 2 ^ h → Tiles a N (peaks_from N h a))
        → Tiles a N (pick (leb (a + 2 ^ h) N) (node h a ∷ peaks_from N h (a + 2 ^ h)) (peaks_from N h a))
    go (inl w) x y = rw (le-leb (a + 2 ^ h) N w) (next (x w (omega arith)))
    go (inr w) x y = rw (lt-leb (a + 2 ^ h) N w) (y l w)

pub peaks_tile : (N : ℕ) → Tiles 0 N (peaks N)
unfolding peaks
peaks_tile N = tile_from N (suc (levels N)) 0 (omega arith) (omega (arith, levels-holds N, pow_pos (levels N)))

-- ---- one for each one bit of N

from_bits : (N h : ℕ) → peaks_from N h (above h N) ≡ peaks_below N h
unfolding peaks_from peaks_below
from_bits N zero = refl
from_bits N (suc h) = go (N / 2 ^ h % 2) refl (from_bits N h)
  where
    go : (r : ℕ) → N / 2 ^ h % 2 ≡ r → peaks_from N h (above h N) ≡ peaks_below N h
        → pick (leb (above (suc h) N + 2 ^ h) N) (node h (above (suc h) N) ∷ peaks_from N h (above (suc h) N + 2 ^ h)) (peaks_from N h (above (suc h) N))
        ≡ pick (eqb (N / 2 ^ h % 2) 1) (node h (above (suc h) N) ∷ []) [] ++ peaks_below N h
    go zero e ih =
        let f = above-left h N e in
        rw (lt-leb (above (suc h) N + 2 ^ h) N (omega (arith, above_in h N)), ne_eqb (N / 2 ^ h % 2) 1 (λ x. omega arith), f) ih
    go (suc r) e ih =
        let f = above-right h N (omega arith) in
        rw (le-leb (above (suc h) N + 2 ^ h) N (omega (arith, above_in h N)), eq-eqb (N / 2 ^ h % 2) 1 (omega arith), f, ih)

pub peaks_bits : (N : ℕ) → peaks N ≡ peaks_below N (suc (levels N))
unfolding peaks
peaks_bits N =
    ap (peaks_from N (suc (levels N))) (sym (above-top (suc (levels N)) N (omega (arith, levels-holds N, pow_pos (levels N)))))
    ∙ from_bits N (suc (levels N))

-- ---- the peak above a chunk

-- the node of height p above chunk c lies within 0..N-1, and its parent does not
pub record Peak (N c p : ℕ) : Type 0 where
  pub whole : above p c + 2 ^ p ≤ N
  pub highest : N < above (suc p) c + 2 ^ suc p

height_found : (N c : ℕ) (p : ℕ) → p ≤ levels N → N < above (suc p) c + 2 ^ suc p → Least (λ h. ltb N (above (suc h) c + 2 ^ suc h)) 0 p (peak_height N c)
unfolding peak_height
height_found N c p l u =
    least_finds (λ h. ltb N (above (suc h) c + 2 ^ suc h)) p (lt-ltb N (above (suc p) c + 2 ^ suc p) u) (levels N) 0 (omega arith) (omega arith)

pub peak_of : (N c : ℕ) → c < N → Peak N c (peak_height N c)
peak_of N c l =
    let R = height_found N c (levels N) (omega arith) (omega (arith, levels-holds N, pow-suc 2 (levels N), pow_pos (levels N))) in
    record { whole = go (peak_height N c) R.before; highest = ltb-true N (above (suc (peak_height N c)) c + 2 ^ suc (peak_height N c)) R.passes }
  where
    go : (p : ℕ) → ((k : ℕ) → 0 ≤ k → k < p → ltb N (above (suc k) c + 2 ^ suc k) ≡ false) → above p c + 2 ^ p ≤ N
    go zero b = omega (arith, above_zero c)
    go (suc k) b = ltb-false N (above (suc k) c + 2 ^ suc k) (b k (omega arith) (omega arith))

-- a chunk past the pack is below none
pub peak-past : (N c : ℕ) → N ≤ c → peak_height N c ≡ 0
peak-past N c l = omega (arith, (height_found N c 0 (omega arith) (omega (arith, above_in 1 c))).within)

-- ---- the same by N's bits, as a loop combines them: start at height 0 with the filler

module _ (H : List ℕ → List ℕ) (Z : List ℕ) (N : ℕ) (held : ℕ → ℕ → List ℕ) where
  pub folded-given : (h : ℕ) → folded H Z N held h (given H Z N held h (above h N)) ≡ given H Z N held (suc h) (above (suc h) N)
  folded-given h = go (N / 2 ^ h % 2) refl
    where
      bit : N / 2 ^ h % 2 ≡ 1 → given H Z N held (suc h) (above (suc h) N) ≡ H (held h (above (suc h) N) ++ given H Z N held h (above h N))
      bit b =
          let f = above-right h N b in
          given-mixed H Z N held h (above (suc h) N) (omega (arith, above_in h N, pow_pos h)) (above_in (suc h) N).1
          ∙ ap₂ (λ (x y : List ℕ). H (x ++ y)) (given-whole H Z N held h (above (suc h) N) (omega (arith, above_in h N))) (ap (given H Z N held h) f)

      rest : N / 2 ^ h % 2 ≡ 0 → (above h N ≡ N) ⊎ (above h N < N)
          → pick (eqb (above h N) N) (given H Z N held h (above h N)) (H (given H Z N held h (above h N) ++ Z)) ≡ given H Z N held (suc h) (above (suc h) N)
      rest b (inl e) =
          let f = above-left h N b in
          rw (eq-eqb (above h N) N e) (given-empty H Z N held h (above h N) (omega arith) ∙ sym (given-empty H Z N held (suc h) (above (suc h) N) (omega arith)))
      rest b (inr e) =
          let f = above-left h N b in
          rw (ne_eqb (above h N) N (λ q. omega arith))
          (sym
          (given-mixed H Z N held h (above (suc h) N) (omega arith) (above_in (suc h) N).1
          ∙ ap₂ (λ (x y : List ℕ). H (x ++ y)) (ap (given H Z N held h) f) (given-empty H Z N held h (above (suc h) N + 2 ^ h) (omega (arith, above_in h N)))))

      le : (above h N ≡ N) ⊎ (above h N < N)
      le = eq-or-lt_of_le (above_in h N).0

      go : (r : ℕ) → N / 2 ^ h % 2 ≡ r → folded H Z N held h (given H Z N held h (above h N)) ≡ given H Z N held (suc h) (above (suc h) N)
      go zero b = rw (ne_eqb (N / 2 ^ h % 2) 1 (λ q. omega arith)) (rest b le)
      go (suc r) b = let c : N / 2 ^ h % 2 ≡ 1 = omega arith in rw (eq-eqb (N / 2 ^ h % 2) 1 c) (sym (bit c))

  pub folded_start : given H Z N held zero (above zero N) ≡ Z
  folded_start = given-empty H Z N held zero (above zero N) (omega (arith, above_in zero N))
