-- How a store begins and how it changes, node by node and chunk by chunk, over any hash H, filler Z and N, and what holds of
-- it at any time: the words of the proofs that a chunk in the map hangs. Assumes nothing.
use Rattle.std.proofs.Common.{◌≡◌, ℕ, zero, suc, ◌+◌, ◌^◌, ◌<◌, ◌≤◌, Bool, true, false, eqb, ltb, leb, List, ◌++◌}
use Rattle.base.specs.Pick.{pick}
use Rattle.tree.specs.Node.{above}
use Rattle.tree.specs.Pack.{levels}
use Rattle.tree.specs.Tree.{tree, combined, climb}
use Rattle.tree.specs.State.{State, is_peak, AllPeaks}
use Rattle.tree.specs.Verdicts.{Came, got, peaks_trusted, verdict}
use Rattle.tree.specs.Verdicts.{Verdict}
use Rattle.std.specs.Prelude.{Ok, Err}
use Rattle.tree.specs.declared.verdict.Fault.TheVariants.{Missing, WrongPeaks, WrongClimb}

-- (h, a) is the root.
abbrev pub is_root : ℕ → ℕ → ℕ → Bool
is_root N h a = pick (eqb h (levels N)) (eqb a 0) false

-- (h, a) is a child of a node above chunk c of height 1 to t: on the way from the leaf up to below height t, or a sibling.
abbrev pub on_path : ℕ → ℕ → ℕ → ℕ → Bool
on_path c t h a = pick (ltb h t) (eqb (above (suc h) a) (above (suc h) c)) false

-- Started in rooms with any contents: the root alone is trusted, and holds the order's hash.
abbrev pub started : ℕ → List ℕ → (ℕ → ℕ → List ℕ) → (ℕ → List ℕ) → State
started N r hashes bytes = record {
  hash = λ h a. pick (is_root N h a) r (hashes h a);
  trust = λ h a. is_root N h a;
  in_map = λ x. false;
  chunk = bytes;
}

-- Built from all chunks: the root and the nodes within 0..N-1 are trusted; what others hold does not count.
abbrev pub built : (List ℕ → List ℕ) → List ℕ → ℕ → (ℕ → List ℕ) → State
built H Z N chunk = record {
  hash = tree H Z N chunk;
  trust = λ h a. pick (leb (a + 2 ^ h) N) true (is_root N h a);
  in_map = λ x. ltb x N;
  chunk = chunk;
}

-- The peaks that came count as trusted.
abbrev pub adopted : ℕ → (ℕ → ℕ → List ℕ) → State → State
adopted N came s = record {
  hash = λ h a. pick (is_peak N h a) (came h a) (s.hash h a);
  trust = λ h a. pick (is_peak N h a) true (s.trust h a);
  in_map = s.in_map;
  chunk = s.chunk;
}

-- Chunk c with the bytes d, hung from the trusted node of height t: the leaf, the climbed nodes and the siblings are
-- written and become trusted.
abbrev pub hung : (List ℕ → List ℕ) → ℕ → ℕ → List ℕ → (ℕ → ℕ → List ℕ) → State → State
hung H c t d came s = record {
  hash = λ h a. pick (on_path c t h a) (pick (eqb a (above h c)) (climb H came (H d) c h) (came h a)) (s.hash h a);
  trust = λ h a. pick (on_path c t h a) true (s.trust h a);
  in_map = λ x. pick (eqb x c) true (s.in_map x);
  chunk = λ x. pick (eqb x c) d (s.chunk x);
}

module _ (H : List ℕ → List ℕ) (Z : List ℕ) (N : ℕ) (r : List ℕ) (s : State) (c : ℕ) (d : List ℕ) (m : Came) where
  -- The store with the peaks that came, where they aren't trusted yet.
  unfoldable pub counted : State
  counted = pick (peaks_trusted N s) s (adopted N (got Z m) s)

  -- The store after a chunk was judged: one that fits is hung, one that is already held changes nothing, and so does any
  -- other verdict.
  abbrev pub after_by : Verdict → State
  after_by (Ok t) = pick (s.in_map c) s (hung H c t d (got Z m) counted)
  after_by (Err (Missing b)) = s
  after_by (Err (WrongPeaks b)) = s
  after_by (Err (WrongClimb b)) = s

  unfoldable pub after : State
  after = after_by (verdict H Z N r s c d m)

-- What holds of a store under the root r at any time.
pub record Sound (H : List ℕ → List ℕ) (Z : List ℕ) (N : ℕ) (r : List ℕ) (s : State) : Type 0 where
  -- Children are trusted in pairs.
  pub pair : (k a : ℕ) → above (suc k) a ≡ a → a + 2 ^ suc k ≤ N → s.trust k a ≡ s.trust k (a + 2 ^ k)
  -- Their parent is trusted with them, and holds their hash.
  pub up : (k a : ℕ) → above (suc k) a ≡ a → a + 2 ^ suc k ≤ N → s.trust k a ≡ true
      → (s.trust (suc k) a ≡ true) × (s.hash (suc k) a ≡ H (s.hash k a ++ s.hash k (a + 2 ^ k)))
  -- A chunk in the map is its trusted leaf's.
  pub leaf : (x : ℕ) → x < N → s.in_map x ≡ true → (s.trust zero x ≡ true) × (s.hash zero x ≡ H (s.chunk x))
  -- Where a node within 0..N-1 is trusted, the peaks are, and give the root.
  pub top : (k a : ℕ) → above k a ≡ a → a + 2 ^ k ≤ N → s.trust k a ≡ true → AllPeaks N s × (combined H Z N s.hash ≡ r)
