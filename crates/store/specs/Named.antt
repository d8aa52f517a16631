-- What 9 and 10 say of the node that they name, in the rooms of a store (02, No. 3). Assumes nothing.
use Rattle.std.specs.Prelude.{ℕ, ◌≡◌, ◌⊎◌, true, List}
use Rattle.hash.proofs.Promise.{sha256}
use Rattle.tree.specs.Node.{Node, num}
use Rattle.tree.specs.Pack.{root_node}
use Rattle.tree.specs.Verdicts.{Each, is_there, needed}
use Rattle.tree.specs.Named.{FirstMissing, MissesRoot, MissesNode}
use Rattle.verdict.specs.Room.{filler}
use Rattle.verdict.specs.Integrity.{Integrity, hash_for, came_from}
use Rattle.verdict.specs.Rooms.{Rooms, count_of, state_of}

-- Each hash that chunk c needs came.
unfoldable pub AllCame : ℕ → Rooms → ℕ → Integrity → Type 0
AllCame L w c o = Each (λ n. is_there (hash_for o (num n)) ≡ true) (needed (count_of L) (state_of L w) c)

-- 9 names node b: the first of them, in the sending order, that did not come.
unfoldable pub NamesMissing : ℕ → Rooms → ℕ → Integrity → ℕ → Type 0
NamesMissing L w c o b = (n : Node) × (b ≡ num n) × FirstMissing (count_of L) (state_of L w) c (came_from o) n

-- 10 names node b: all of them came, and it is the root, which the peaks do not give, or else the node that counts as
-- trusted and that the climb misses.
unfoldable pub NamesMissed : ℕ → List ℕ → Rooms → ℕ → List ℕ → Integrity → ℕ → Type 0
NamesMissed L r w c d o b =
    AllCame L w c o
    × (((b ≡ root_node (count_of L)) × MissesRoot sha256 filler (count_of L) r (state_of L w) (came_from o))
    ⊎ ((n : Node) × (b ≡ num n) × MissesNode sha256 filler (count_of L) r (state_of L w) c d (came_from o) n))
