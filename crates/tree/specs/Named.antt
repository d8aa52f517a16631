-- What the numbers 9 and 10 say of the node that they name (02, No. 3). Assumes nothing.
use Rattle.std.specs.Prelude.{◌≡◌, ℕ, ◌<◌, true, false, ◌≢◌, ◌⊎◌, List, [], ◌∷◌}
use Rattle.std.proofs.Math.Option.{none}
use Rattle.tree.specs.Node.{Node, above}
use Rattle.tree.specs.Tree.{combined, climb}
use Rattle.tree.specs.State.{State}
use Rattle.tree.specs.Verdicts.{Came, is_there, got, peaks_trusted, counts, counted_hash, needed}

-- n is one of the nodes.
abbrev pub In : Node → List Node → Type 0
In n [] = ⊥
In n (m ∷ ms) = (n ≡ m) ⊎ In n ms

-- n stands before m in the sending order: by height falling, then by first chunk rising.
abbrev pub Precedes : Node → Node → Type 0
Precedes n m = (m.high < n.high) ⊎ ((m.high ≡ n.high) × (n.from < m.from))

-- 9: n is needed for chunk c and did not come, and every needed node before it came.
pub record FirstMissing (N : ℕ) (s : State) (c : ℕ) (m : Came) (n : Node) : Type 0 where
  pub needs : In n (needed N s c)
  pub absent : m n.high n.from ≡ none
  pub came-before : (k : Node) → In k (needed N s c) → Precedes k n → is_there (m k.high k.from) ≡ true

-- 10 with the root: the peaks are not trusted yet, and those that came combine to another hash.
pub record MissesRoot (H : List ℕ → List ℕ) (Z : List ℕ) (N : ℕ) (r : List ℕ) (s : State) (m : Came) : Type 0 where
  pub untrusted : peaks_trusted N s ≡ false
  pub differs : combined H Z N (got Z m) ≢ r

-- 10 with the first node n at or above the leaf of chunk c that counts as trusted: the peaks are trusted or give the
-- root, and the climb gives another hash there. Where N is a power of two it may be the root.
pub record MissesNode (H : List ℕ → List ℕ) (Z : List ℕ) (N : ℕ) (r : List ℕ) (s : State) (c : ℕ) (d : List ℕ)
    (m : Came) (n : Node) : Type 0 where
  pub peaks-right : (peaks_trusted N s ≡ true) ⊎ (combined H Z N (got Z m) ≡ r)
  pub is-above : n.from ≡ above n.high c
  pub trusted : counts N s n.high n.from ≡ true
  pub first : (h : ℕ) → h < n.high → counts N s h (above h c) ≡ false
  pub differs : climb H (got Z m) (H d) c n.high ≢ counted_hash N s (got Z m) n.high n.from
