-- The numbers given back before any hash is looked at, in 01's order: 12, 11, 7, 8 (01, "Numbers given back"), and the
-- sizes of the rooms (01, "Rooms lent by the loader"). Assumes nothing.
use Rattle.std.specs.Prelude.{ℕ, ◌*◌, ◌≤◌, ◌&&◌, not, leb, ltb, eqb, length}
use Rattle.bits.proofs.Promise.{row_words}
use Rattle.tree.specs.Pack.{chunk_size, max_length, size, leaf_places}
use Rattle.verdict.specs.Rooms.{Rooms, count_of}
use Rattle.store.specs.declared.answers.Sizes.{Sizes}
pub use Rattle.base.specs.Pick.{pick, earlier}

-- The sizes of a store's rooms.
abbrev pub sizes_of : Rooms → Sizes
sizes_of w = record { chunks = length w.bytes; map = length w.map; hashes = length w.hashes; trusted = length w.trusted }

-- 12: the order's length is 0 or over the limit.
unfoldable pub length_answer : ℕ → ℕ
length_answer L = pick (eqb L 0) 12 (pick (ltb max_length L) 12 0)

-- 12: the content has n bytes and not the order's length.
abbrev pub content_answer : ℕ → ℕ → ℕ
content_answer L n = pick (not (eqb n L)) 12 0

-- The words that the rooms of a pack of n chunks need: for the map a bit for each chunk, in whole words,
abbrev pub map_words : ℕ → ℕ
map_words n = row_words n

-- for the hashes 16 for each leaf place of the tree,
abbrev pub hash_words : ℕ → ℕ
hash_words n = 16 * leaf_places n

-- and for the trusted nodes 2 bits for each leaf place, in whole words.
abbrev pub trusted_words : ℕ → ℕ
trusted_words n = row_words (2 * leaf_places n)

-- The rooms are large enough for a pack of L bytes.
pub record Enough (L : ℕ) (w : Rooms) : Type 0 where
  pub bytes_in : L ≤ length w.bytes
  pub map_in : map_words (count_of L) ≤ length w.map
  pub hashes_in : hash_words (count_of L) ≤ length w.hashes
  pub trusted_within : trusted_words (count_of L) ≤ length w.trusted

-- 11: they are not, with b bytes, and m, h and t words for the map, the hashes and the trusted nodes.
unfoldable pub room_answer : ℕ → ℕ → ℕ → ℕ → ℕ → ℕ
room_answer L b m h t =
    pick (leb L b && leb (map_words (count_of L)) m && leb (hash_words (count_of L)) h && leb (trusted_words (count_of L)) t)
    0 11

-- 12, then 11.
unfoldable pub order_answer : ℕ → ℕ → ℕ → ℕ → ℕ → ℕ
order_answer L b m h t = earlier (length_answer L) (room_answer L b m h t)

-- 7: chunk c is past N-1; 8: it comes with a length n that is not its own.
unfoldable pub chunk_answer : ℕ → ℕ → ℕ → ℕ
chunk_answer L c n = pick (leb (count_of L) c) 7 (pick (not (eqb n (size chunk_size L c))) 8 0)
