-- Starting a store in its rooms, and building a whole one from its content (01, "What a store works under"). Assumes
-- nothing.
use Rattle.std.specs.Prelude.{ℕ, zero, suc, ◌*◌, ◌/◌, ◌^◌, List, [], ◌∷◌, ◌++◌, length}
use Rattle.bits.proofs.Promise.{set_bit, set_range, clear_words, row_words}
use Rattle.hash.proofs.Promise.{sha256}
use Rattle.tree.specs.Node.{Node, node}
use Rattle.tree.specs.Pack.{levels, leaf_places, root_node}
use Rattle.tree.specs.Tree.{tree, root}
use Rattle.verdict.specs.Room.{filler, put_hash}
use Rattle.verdict.specs.Rooms.{Rooms, count_of, chunk_in}
use Rattle.store.specs.Storing.{mark, put_each, copied}

-- A row of n bits cleared, in whole words.
abbrev pub clear_row : List ℕ → ℕ → List ℕ
clear_row ws n = clear_words ws 0 (row_words n)

-- Started: the bit rows are cleared, the root's hash is written and its trusted bit set, nothing else.
unfoldable pub start_rooms : Rooms → ℕ → List ℕ → Rooms
start_rooms w N r = record {
  bytes = w.bytes;
  map = clear_row w.map N;
  hashes = put_hash w.hashes (root_node N) r;
  trusted = set_bit (clear_row w.trusted (2 * leaf_places N)) (root_node N);
}

-- ---- building

-- The hash of each node of a content, and its root.
unfoldable pub tree_of : List ℕ → ℕ → ℕ → List ℕ
tree_of s = tree sha256 filler (count_of (length s)) (chunk_in (length s) s)

unfoldable pub root_of : List ℕ → List ℕ
root_of s = root sha256 filler (count_of (length s)) (chunk_in (length s) s)

-- The first k nodes of height h,
unfoldable pub level : ℕ → ℕ → List Node
level h zero = []
level h (suc k) = node h (k * 2 ^ h) ∷ level h k

-- and every node wholly inside 0..N-1, of heights below k.
unfoldable pub inside : ℕ → ℕ → List Node
inside N zero = []
inside N (suc h) = level h (N / 2 ^ h) ++ inside N h

-- The root, and every node wholly inside the pack.
abbrev pub built_nodes : ℕ → List Node
built_nodes N = node (levels N) 0 ∷ inside N (suc (levels N))

-- Built: the content is copied, the N map bits are set, and the hashes of the root and of every node wholly inside the
-- pack are written and trusted, no others; the rest is as after starting.
unfoldable pub build_rooms : Rooms → ℕ → List ℕ → Rooms
build_rooms w N s = record {
  bytes = copied w.bytes 0 s;
  map = set_range (clear_row w.map N) 0 N;
  hashes = put_each put_hash (tree_of s) (built_nodes N) w.hashes;
  trusted = put_each mark (tree_of s) (built_nodes N) (clear_row w.trusted (2 * leaf_places N));
}
