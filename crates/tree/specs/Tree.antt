-- The hash tree over N chunks, for any hash H and any filler Z (RFC 7574, 5.1; 01, "Nodes and the tree"). Assumes
-- nothing.
use Rattle.std.specs.Prelude.{ℕ, zero, suc, ◌+◌, ◌^◌, List, ◌++◌, nat_le, nat_lt}
use Rattle.base.specs.Pick.{pick}
use Rattle.tree.specs.Node.{above, sibling_from}
use Rattle.tree.specs.Pack.{levels}

module _ (H : List ℕ → List ℕ) (Z : List ℕ) (N : ℕ) where
  -- The true hash of each node: leaves past N hold the filler, a parent the hash of left then right, and a node whose
  -- leaves all lie past N the filler.
  unfoldable pub tree : (ℕ → List ℕ) → ℕ → ℕ → List ℕ
  tree chunk zero a = pick (nat_le N a) Z (H (chunk a))
  tree chunk (suc h) a = pick (nat_le N a) Z (H (tree chunk h a ++ tree chunk h (a + 2 ^ h)))

  unfoldable pub root : (ℕ → List ℕ) → List ℕ
  root chunk = tree chunk (levels N) 0

  -- What held hashes give at a node: the node's own if it lies within 0..N-1, the filler if it lies past N, and
  -- otherwise, above the peaks, the hash of what they give at its two children.
  unfoldable pub given : (ℕ → ℕ → List ℕ) → ℕ → ℕ → List ℕ
  given held zero a = pick (nat_le N a) Z (held zero a)
  given held (suc h) a =
      pick (nat_le N a) Z (pick (nat_le (a + 2 ^ suc h) N) (held (suc h) a) (H (given held h a ++ given held h (a + 2 ^ h))))

  -- The peaks combined, with fillers, to the root.
  unfoldable pub combined : (ℕ → ℕ → List ℕ) → List ℕ
  combined held = given held (levels N) 0

module _ (H : List ℕ → List ℕ) where
  -- The hash of the node of height h + 1 above chunk c, from that of its child above c and of that child's sibling:
  -- left then right.
  abbrev pub joined : ℕ → ℕ → List ℕ → List ℕ → List ℕ
  joined c h mine sib = H (pick (nat_lt c (above (suc h) c + 2 ^ h)) (mine ++ sib) (sib ++ mine))

  -- The climb from chunk c, whose leaf has the hash v, to the node of height h above it, with the siblings' hashes.
  unfoldable pub climb : (ℕ → ℕ → List ℕ) → List ℕ → ℕ → ℕ → List ℕ
  climb sib v c zero = v
  climb sib v c (suc h) = joined c h (climb sib v c h) (sib h (sibling_from h c))
