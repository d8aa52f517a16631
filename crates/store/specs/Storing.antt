-- What storing a chunk that fits writes to the rooms (01, "Taking a chunk"). Assumes nothing.
use Rattle.std.specs.Prelude.{ℕ, zero, suc, ◌*◌, Bool, List, [], ◌∷◌, eqb, length}
use Rattle.std.proofs.Math.Seq.{paste}
use Rattle.bits.proofs.Promise.{bit_at, set_bit}
use Rattle.hash.proofs.Promise.{sha256}
use Rattle.base.specs.Pick.{pick}
use Rattle.tree.specs.Node.{Node, node, num, above, sibling_from}
use Rattle.tree.specs.Pack.{chunk_size}
use Rattle.tree.specs.Peaks.{peaks}
use Rattle.tree.specs.Tree.{climb}
use Rattle.tree.specs.Verdicts.{got, peaks_trusted}
use Rattle.verdict.specs.Room.{filler, put_hash}
use Rattle.verdict.specs.Integrity.{Integrity, came_from}
use Rattle.verdict.specs.Rooms.{Rooms, state_of}

-- How a node's hash is put into a room: written in the hash room, marked in the row of trusted nodes.
abbrev pub Put : Type 0
Put = List ℕ → ℕ → List ℕ → List ℕ

abbrev pub mark : Put
mark trusted b v = set_bit trusted b

-- Each node of a list, the last one first, with the hash that f gives.
unfoldable pub put_each : Put → (ℕ → ℕ → List ℕ) → List Node → List ℕ → List ℕ
put_each put f [] l = l
put_each put f (n ∷ ns) l = put (put_each put f ns l) (num n) (f n.high n.from)

-- The leaf of chunk c and the climbed nodes, of heights below t, each behind its sibling.
unfoldable pub path_nodes : ℕ → ℕ → List Node
path_nodes c zero = []
path_nodes c (suc h) = node h (sibling_from h c) ∷ node h (above h c) ∷ path_nodes c h

-- "the peaks, the leaf, climbed nodes and siblings": the peaks where they weren't trusted, then the path below the
-- trusted node of height t. What lies above the chunk has its climbed hash, peaks and siblings have the hashes that
-- came.
unfoldable pub put_all : Put → Bool → ℕ → ℕ → ℕ → List ℕ → (ℕ → ℕ → List ℕ) → List ℕ → List ℕ
put_all put trusted N c t d came l =
    put_each put (λ h a. pick (eqb a (above h c)) (climb sha256 came (sha256 d) c h) (came h a))
    (path_nodes c t) (put_each put came (pick trusted [] (peaks N)) l)

-- The elements of s in l's place from index at on, where l has room for them.
unfoldable pub copied : List ℕ → ℕ → List ℕ → List ℕ
copied l at s = paste l at s (length s)

-- Chunk c with the bytes d, hung from the trusted node of height t, which is its own leaf where t is 0. Whether the
-- peaks are trusted doesn't depend on the pack's length.
unfoldable pub stored : Rooms → ℕ → ℕ → ℕ → List ℕ → Integrity → Rooms
stored w N c t d o = record {
  bytes = copied w.bytes (chunk_size * c) d;
  map = set_bit w.map c;
  hashes = put_all put_hash (peaks_trusted N (state_of 0 w)) N c t d (got filler (came_from o)) w.hashes;
  trusted = put_all mark (peaks_trusted N (state_of 0 w)) N c t d (got filler (came_from o)) w.trusted;
}

-- A chunk already held changes nothing.
unfoldable pub store_spec : Rooms → ℕ → ℕ → ℕ → List ℕ → Integrity → Rooms
store_spec w N c t d o = pick (bit_at w.map c) w (stored w N c t d o)
