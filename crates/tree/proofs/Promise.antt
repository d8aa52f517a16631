-- What the crates above the tree part know of this one: of its definitions the names passed on here, and these laws. Assumes
-- nothing.
use Rattle.std.proofs.Common.{◌≡◌, ℕ, suc, ◌+◌, ◌*◌, ◌^◌, ◌<◌, ◌≤◌, true, leb, map, length, get_or, refl}
use Rattle.std.specs.Prelude.{Some}
use Rattle.tree.proofs.BinLaws as nodes
use Rattle.tree.proofs.NodeLaws as places
use Rattle.tree.proofs.KinLaws as kin
use Rattle.tree.proofs.RangeLaws.{range_is}
use Rattle.tree.proofs.PackLaws as pack
use Rattle.tree.proofs.ChunkLaws as chunk
use Rattle.tree.proofs.SentLaws as sending
use Rattle.tree.proofs.SentNumberLaws as numbers
-- Nodes and ranges: a node's number, its first and its last chunk; whether it covers a range, and the node of a range.
pub use Rattle.tree.specs.Bin.{bin, first, last}
pub use Rattle.tree.specs.Node.{Node, num, above, sibling_from}
unfoldable pub use Rattle.tree.specs.Range.{covers, node_of_range}
-- Packs and chunks: the sizes of the yard profile, the number of chunks, a chunk's size, the leaf places of the least tree and its root.
pub use Rattle.tree.specs.Pack.{chunk_size, max_length, chunks, size, levels, leaf_places, root_node}
-- The peaks and siblings that go out with a chunk, in the sending order.
pub use Rattle.tree.specs.Peaks.{sent}
pub use Rattle.tree.specs.Steps.{peak_bit, peak_at, sibling_at, peak_turn, sibling_turn}
pub use Rattle.tree.proofs.Below.{sent_below}
pub use Rattle.tree.proofs.StepLaws.{sent-none, sent-at}
pub use Rattle.tree.proofs.SentNumberLaws.{Differs, Distinct}

-- ---- nodes and ranges

-- The k-th node of height h, from 0 on, begins with chunk k * 2 ^ h.
pub first_chunk : (h k : ℕ) → first (bin h (k * 2 ^ h)) ≡ k * 2 ^ h
first_chunk = nodes.first-bin

-- A node's number is the sum of its first and its last chunk.
pub first_plus_last : (b : ℕ) → first b + last b ≡ b
first_plus_last = nodes.first_plus_last

pub first-to-last : (b : ℕ) → first b ≤ last b
first-to-last = nodes.first-to-last

-- A node that covers chunk c is the one above c of some height;
pub node-above : (b c : ℕ) → first b ≤ c → c ≤ last b → (h : ℕ) × (first b ≡ above h c) × (last b + 1 ≡ above h c + 2 ^ h)
node-above = kin.node-above

-- of two above c, the higher one covers the lower.
pub above_nested : (h k c : ℕ) → h ≤ k → (above k c ≤ above h c) × (above h c + 2 ^ h ≤ above k c + 2 ^ k)
above_nested = places.above_nested

-- The node of the chunks that a node covers is that node.
pub node-range : (b : ℕ) → node_of_range (first b) (last b) ≡ Some b
node-range b = range_is (first b) (last b) b refl refl

-- ---- packs and chunks

-- A chunk of a pack lies within it,
pub chunk_inside : (S L : ℕ) → 0 < S → (c : ℕ) → c < chunks S L → S * c + size S L c ≤ L
chunk_inside = chunk.chunk_inside

-- and has 1 to S bytes.
pub chunk_some : (S L : ℕ) → 0 < S → (c : ℕ) → c < chunks S L → (0 < size S L c) × (size S L c ≤ S)
chunk_some = chunk.chunk_some

-- A node inside a pack of N chunks is no higher than the least tree over them.
pub height_bound : (N h : ℕ) → 2 ^ h ≤ N → h ≤ levels N
height_bound = pack.high_bound

-- The least tree over at most 2 ^ k chunks has at most 2 ^ k leaf places.
pub places_small : (k N w : ℕ) → w ≡ leaf_places N → N ≤ 2 ^ k → w ≤ 2 ^ k
places_small = pack.places_small

-- ---- peaks and the sending order: what goes out with a chunk

-- Height by height from the top: `sent_below` is what the heights below one add, at each the sibling and then the peak (`sent-at`).
pub sent_heights : (N c : ℕ) → sent N c ≡ sent_below N c (suc (levels N))
sent_heights = sending.sent_is

-- A sibling that goes out lies within 0..N-1, and so does a peak.
pub sibling-inside : (N c h : ℕ) → leb (above (suc h) c + 2 ^ suc h) N ≡ true → sibling_from h c + 2 ^ h ≤ N
sibling-inside = numbers.sibling-inside

pub peak-inside : (N h : ℕ) → peak_bit N h ≡ true → above (suc h) N + 2 ^ h ≤ N
peak-inside = numbers.peak-inside

-- Of at most 2 ^ k chunks: at most two nodes at each of k + 1 heights.
pub sent_few : (k N c : ℕ) → N ≤ 2 ^ k → length (sent N c) ≤ 2 * suc k
sent_few = numbers.sent_few

-- Of N chunks: no node's number is over 2 * N.
pub sent-under : (N c i : ℕ) → get_or (map num (sent N c)) i 0 ≤ 2 * N
sent-under = numbers.sent-under

-- No node's number comes twice.
pub sent_once : (N c : ℕ) → Distinct (map num (sent N c))
sent_once = numbers.sent_once
