-- A chunk hangs from the root, and two stores under one root are compared by a walk down to a chunk (01, "Demand 3's
-- words"). Over any hash H, filler Z and N. Assumes nothing.
use Rattle.std.specs.Prelude.{◌≡◌, ℕ, zero, suc, ◌+◌, ◌^◌, ◌<◌, ◌≤◌, true, ◌≢◌, List, ◌++◌}
use Rattle.base.specs.Same.{same}
use Rattle.base.specs.Pick.{pick}
use Rattle.tree.specs.Node.{Node, node, above}
use Rattle.tree.specs.Pack.{levels}
use Rattle.tree.specs.Tree.{given, combined}
use Rattle.tree.specs.State.{State, AllPeaks}

module _ (H : List ℕ → List ℕ) (Z : List ℕ) (N : ℕ) where
  -- A hash is held if its trusted bit is set. A chunk hangs if
  pub record Hangs (r : List ℕ) (s : State) (c : ℕ) : Type 0 where
    -- all peaks are held
    pub peaks-held : AllPeaks N s
    -- and combine, with fillers, to the root,
    pub top : combined H Z N s.hash ≡ r
    -- its hash is its held leaf's,
    pub leaf-held : s.trust zero c ≡ true
    pub leaf : s.hash zero c ≡ H (s.chunk c)
    -- and each node above that up to its peak is held
    pub up-held : (k : ℕ) → above (suc k) c + 2 ^ suc k ≤ N → s.trust (suc k) (above (suc k) c) ≡ true
    -- and the hash of its two held children.
    pub children-held : (k : ℕ) → above (suc k) c + 2 ^ suc k ≤ N
        → (s.trust k (above (suc k) c) ≡ true) × (s.trust k (above (suc k) c + 2 ^ k) ≡ true)
    pub up : (k : ℕ) → above (suc k) c + 2 ^ suc k ≤ N
        → s.hash (suc k) (above (suc k) c) ≡ H (s.hash k (above (suc k) c) ++ s.hash k (above (suc k) c + 2 ^ k))

  -- A node's string is its two children's hashes, left then right, at a leaf the chunk; hashes above the peaks are
  -- what held peaks and fillers give.
  unfoldable pub string : State → ℕ → ℕ → List ℕ
  string s zero a = s.chunk a
  string s (suc h) a = given H Z N s.hash h a ++ given H Z N s.hash h (a + 2 ^ h)

  module _ (s t : State) (c : ℕ) where
    -- From the node of height h above chunk c down to its leaf, the first where the strings differ; the leaf if none
    -- does.
    unfoldable pub walk_from : ℕ → Node
    walk_from zero = node zero (above zero c)
    walk_from (suc h) =
        let a = above (suc h) c in pick (same (string s (suc h) a) (string t (suc h) a)) (walk_from h) (node (suc h) a)

    -- The walk to a chunk runs from the root to its leaf: of the tree's height, the node above a chunk of the pack is the
    -- root.
    unfoldable pub walk : Node
    walk = walk_from (levels N)

    -- What the walk names: both stores' strings at its node.
    unfoldable pub here : List ℕ
    here = string s walk.high walk.from

    unfoldable pub there : List ℕ
    there = string t walk.high walk.from

    -- Two different strings with one hash, hashed at one place of both trees: where the walk to chunk c ends. At every
    -- node above it on the way the strings are the same.
    pub record Collision : Type 0 where
      pub on_way : walk.from ≡ above walk.high c
      pub in_tree : walk.high ≤ levels N
      pub differ : here ≢ there
      pub hashed-here : given H Z N s.hash walk.high walk.from ≡ H here
      pub hashed-there : given H Z N t.hash walk.high walk.from ≡ H there
      pub one_value : H here ≡ H there
      pub first : (k : ℕ) → walk.high < k → k ≤ levels N → string s k (above k c) ≡ string t k (above k c)

-- Chunk c is the lowest of N that differs.
pub record Lowest (N : ℕ) (s t : State) (c : ℕ) : Type 0 where
  pub in_pack : c < N
  pub below : (k : ℕ) → k < c → s.chunk k ≡ t.chunk k
  pub differs : s.chunk c ≢ t.chunk c
