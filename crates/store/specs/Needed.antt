-- Which hashes taking a chunk looks at, and those of a content that go out with a chunk, in the rooms of a store (01,
-- "Taking a chunk" and "Writing a chunk"). Assumes nothing.
use Rattle.std.specs.Prelude.{ℕ, ◌+◌, ◌^◌, ◌≤◌, ◌≡◌, true, List, length}
use Rattle.std.proofs.Math.Option.{some}
use Rattle.bits.proofs.Promise.{bit_at}
use Rattle.tree.specs.Bin.{bin}
use Rattle.tree.specs.Node.{num, above}
use Rattle.tree.specs.Peaks.{sent}
use Rattle.tree.specs.Verdicts.{Each, needed}
use Rattle.verdict.specs.Room.{hash_in}
use Rattle.verdict.specs.Integrity.{Integrity, hash_for}
use Rattle.verdict.specs.Rooms.{Rooms, count_of, state_of}
use Rattle.store.specs.Building.{tree_of}

-- Of each hash that chunk c of a pack of L bytes needs the same value came both times, or none: of the peaks if they
-- aren't trusted yet, and of the sibling at each step below the first node that counts as trusted.
unfoldable pub SameNeeded : ℕ → Rooms → ℕ → Integrity → Integrity → Type 0
SameNeeded L w c o p = Each (λ n. hash_for o (num n) ≡ hash_for p (num n)) (needed (count_of L) (state_of L w) c)

-- Each trusted node within the pack holds its hash in the tree of the content s.
unfoldable pub HoldsTrue : Rooms → List ℕ → Type 0
HoldsTrue w s = (h a : ℕ) → above h a ≡ a → a + 2 ^ h ≤ count_of (length s) → bit_at w.trusted (bin h a) ≡ true
    → hash_in w.hashes (bin h a) ≡ tree_of s h a

-- The hashes that go out with chunk c of the content s came: all peaks and all siblings below its peak.
unfoldable pub BringsTrue : List ℕ → ℕ → Integrity → Type 0
BringsTrue s c o = Each (λ n. hash_for o (num n) ≡ some (tree_of s n.high n.from)) (sent (count_of (length s)) c)
