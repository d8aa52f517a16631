-- What the crates above know of this one: the theorems on a running store, and of its definitions the names passed on here.
-- Assumes nothing.
use mathlib.Core.Path.{◌≡◌}
use mathlib.Core.Logic.{◌≢◌}
use mathlib.Core.Bool.{Bool, true, false}
use mathlib.Core.List.{List, [], ◌∷◌}
use Prim.Native.Nat.{ℕ, suc, ◌*◌, ◌<◌, ◌≤◌}
use lib.Dec.{eqb}
use lib.ListN.{length, take}
use Rattle.hash.proofs.Promise.{bytes_of}
use Rattle.bits.proofs.Promise.{bit_at, row_words}
use Rattle.base.specs.Pick.{pick}
use Rattle.base.specs.Among.{among, OneOf}
use Rattle.base.specs.Out.{is_named, no_node}
use Rattle.std.specs.Prelude.{Some, None}
use Rattle.tree.specs.Pack.{chunk_size, max_length, size, leaf_places, root_node}
use Rattle.verdict.proofs.RoomLaws.{digest_words}
use Rattle.store.proofs.BegunLaws.{enough-order, start-running, start-not-same, start-same-sizes, start-empty, build-running, build-not-same, build-same-sizes, build-bytes, build-whole}
use Rattle.store.proofs.TakenLaws.{take-refused-same, take-means, take-sizes, take-running, take-map, take-bytes}
use Rattle.store.proofs.AlikeLaws.{hangs, alike}
use Rattle.store.proofs.NeededLaws.{take_same}
use Rattle.store.proofs.TrueLaws.{start-true, take_true, keep-true}
use Rattle.store.proofs.CallLaws.{start-nameless, build-nameless}
use Rattle.store.proofs.AnswerLaws as answers
use Rattle.store.proofs.AcceptLaws as accept
use Rattle.store.proofs.NumberLaws as numbers
use Rattle.store.proofs.NameLaws as names
use Rattle.store.proofs.ShorterLaws as shorter
pub use Rattle.verdict.specs.Room.{filler, hash_in}
unfoldable pub use Rattle.verdict.specs.Room.{Digest}
pub use Rattle.verdict.proofs.RoomLaws.{hash-length, hash-words}
pub use Rattle.verdict.specs.Integrity.{Integrity, integrity_of}
pub use Rattle.verdict.specs.Rooms.{Rooms, rooms_of, count_of, chunk_in, state_of}
pub use Rattle.store.specs.Building.{root_of}
pub use Rattle.store.specs.Answers.{earlier, length_answer, map_words, hash_words, trusted_words, Enough, room_answer, order_answer, chunk_answer, sizes_of}
pub use Rattle.store.specs.Calls.{rooms_answer, start_spec, build_answer, build_spec, take_spec}
pub use Rattle.store.specs.Steps.{found_root, given_root}
pub use Rattle.store.specs.Whole.{HangsIn, Alike}
pub use Rattle.store.proofs.Running.{SameSizes, SoundRooms, Running}
unfoldable pub use Rattle.store.specs.Whole.{Whole}
pub use Rattle.store.specs.Needed.{SameNeeded, HoldsTrue, BringsTrue}
pub use Rattle.store.specs.Named.{AllCame, NamesMissing, NamesMissed}

-- The words of an order's root stand for 32 bytes.
pub root-words : (u : List ℕ) → length u ≡ 8 → Digest (bytes_of u)
root-words = digest_words

-- The root of a content is 32 bytes.
pub content_root : (s : List ℕ) → Digest (root_of s)
content_root = accept.root_digest

-- ---- what an answer of 0 says

-- A test that would refuse failed, and so did those behind it.
pub passed : (b : Bool) (n rest : ℕ) → pick b (suc n) rest ≡ 0 → (b ≡ false) × (rest ≡ 0)
passed = answers.passed

-- Of two numbers the first counts if it refuses.
pub earlier_not : (m n : ℕ) → m ≢ 0 → m ≡ earlier m n
earlier_not = answers.earlier_not

-- Of two numbers that refuse in turn, neither does.
pub both_zero : (m n : ℕ) → earlier m n ≡ 0 → (m ≡ 0) × (n ≡ 0)
both_zero = answers.both_zero

-- Not 12, and not 11.
pub order_accepted : (L b m h t : ℕ) → order_answer L b m h t ≡ 0 → (length_answer L ≡ 0) × (room_answer L b m h t ≡ 0)
order_accepted = accept.order_accepted

-- Neither in rooms that are large enough,
pub order-enough : (L : ℕ) (w : Rooms) → length_answer L ≡ 0 → Enough L w → rooms_answer L w ≡ 0
order-enough = shorter.order-enough

pub build-enough : (L : ℕ) (w : Rooms) (n : ℕ) → length_answer L ≡ 0 → n ≡ L → Enough L w
    → build_answer L n (length w.bytes) (length w.map) (length w.hashes) (length w.trusted) ≡ 0
build-enough = shorter.build-enough

-- nor for a shorter order.
pub order_shorter : (K L : ℕ) → K ≤ L → (b m h t : ℕ) → 0 < K → order_answer L b m h t ≡ 0 → order_answer K b m h t ≡ 0
order_shorter = shorter.order_shorter

-- A row of fewer bits has no more words, and a shorter pack no more chunks.
pub row_mono : (m n : ℕ) → m ≤ n → row_words m ≤ row_words n
row_mono = shorter.row_mono

pub count_mono : (K L : ℕ) → K ≤ L → count_of K ≤ count_of L
count_mono = shorter.count_mono

-- Not 12: the length is within the limit.
pub length_accepted : (L : ℕ) → length_answer L ≡ 0 → (0 < L) × (L ≤ max_length)
length_accepted = answers.length_facts

pub length-within : (L : ℕ) → L ≢ 0 → L ≤ max_length → 0 ≡ length_answer L
length-within = answers.length-right

-- Neither 12 nor 11: the rooms are large enough.
pub rooms_accepted : (L : ℕ) (w : Rooms) → rooms_answer L w ≡ 0 → Enough L w
rooms_accepted = enough-order

-- Neither, and the content has the order's length.
pub build_accepted : (L n b m h t : ℕ) → build_answer L n b m h t ≡ 0 → (length_answer L ≡ 0) × (n ≡ L) × (room_answer L b m h t ≡ 0)
build_accepted = accept.build_accepted

-- ---- the numbers that the calls and their checks can give

pub length_numbered : (L : ℕ) → OneOf (0 ∷ 12 ∷ []) (length_answer L)
length_numbered = numbers.length-one

pub order_numbered : (L b m h t : ℕ) → OneOf (0 ∷ 11 ∷ 12 ∷ []) (order_answer L b m h t)
order_numbered = numbers.order-one

pub build_numbered : (L n b m h t : ℕ) → OneOf (0 ∷ 11 ∷ 12 ∷ []) (build_answer L n b m h t)
build_numbered = numbers.build-one

-- In rooms that suffice for the order.
pub take_numbered : (w : Rooms) (r : List ℕ) (L c : ℕ) (d : List ℕ) (o : Integrity) → rooms_answer L w ≡ 0
    → OneOf (0 ∷ 7 ∷ 8 ∷ 9 ∷ 10 ∷ []) (take_spec w r L c d o).answer
take_numbered = numbers.take-one

-- ---- starting

-- A start that neither 12 nor 11 refuses answers 0.
pub start-zero : (w : Rooms) (r : List ℕ) (L : ℕ) → rooms_answer L w ≡ 0 → (start_spec w r L).answer ≡ 0
start-zero = accept.start-zero

-- A start that answers 0 leaves a running store under its order,
pub started-running : (w : Rooms) (r : List ℕ) (L : ℕ) → Digest r → (start_spec w r L).answer ≡ 0 → Running L r (start_spec w r L).after
started-running = start-running

-- in rooms of the same sizes,
pub started_sizes : (w : Rooms) (r : List ℕ) (L : ℕ) → SameSizes w (start_spec w r L).after
started_sizes = start-same-sizes

-- with no chunk in its map.
pub started_empty : (w : Rooms) (r : List ℕ) (L : ℕ) → (start_spec w r L).answer ≡ 0 → (x : ℕ) → x < count_of L → bit_at (start_spec w r L).after.map x ≡ false
started_empty = start-empty

-- A refused start changes nothing.
pub start-refused-same : (w : Rooms) (r : List ℕ) (L : ℕ) → (start_spec w r L).answer ≢ 0 → (start_spec w r L).after ≡ w
start-refused-same = start-not-same

-- ---- building

-- A building that neither 12 nor 11 refuses answers 0.
pub build-zero : (w : Rooms) (L : ℕ) (s : List ℕ)
    → build_answer L (length s) (length w.bytes) (length w.map) (length w.hashes) (length w.trusted) ≡ 0 → (build_spec w L s).answer ≡ 0
build-zero = accept.build-zero

-- A building that answers 0 leaves a running store under the root that it found; its content has the order's length,
pub built-running : (w : Rooms) (L : ℕ) (s : List ℕ) → (build_spec w L s).answer ≡ 0 → (length s ≡ L) × Running L (root_of s) (build_spec w L s).after
built-running = build-running

-- its bytes are the content's,
pub built-bytes : (w : Rooms) (L : ℕ) (s : List ℕ) → (build_spec w L s).answer ≡ 0 → take L (build_spec w L s).after.bytes ≡ s
built-bytes = build-bytes

-- its rooms have the sizes they had,
pub built_sizes : (w : Rooms) (L : ℕ) (s : List ℕ) → SameSizes w (build_spec w L s).after
built_sizes = build-same-sizes

-- and all chunks are in its map.
pub built-whole : (w : Rooms) (L : ℕ) (s : List ℕ) → (build_spec w L s).answer ≡ 0 → Whole L (build_spec w L s).after
built-whole = build-whole

-- A refused building changes nothing.
pub build-refused-same : (w : Rooms) (L : ℕ) (s : List ℕ) → (build_spec w L s).answer ≢ 0 → (build_spec w L s).after ≡ w
build-refused-same = build-not-same

-- Neither starting nor building names a node.
pub start_nameless : (w : Rooms) (r : List ℕ) (L : ℕ) → (start_spec w r L).node ≡ None
start_nameless = start-nameless

pub build_nameless : (w : Rooms) (L : ℕ) (s : List ℕ) → (build_spec w L s).node ≡ None
build_nameless = build-nameless

-- ---- taking

module _ (w : Rooms) (r : List ℕ) (L c : ℕ) (d : List ℕ) (o : Integrity) where
  -- A refused chunk changes nothing.
  pub refused-same : (take_spec w r L c d o).answer ≢ 0 → (take_spec w r L c d o).after ≡ w
  refused-same = take-refused-same w r L c d o

  -- Whatever comes, a running store keeps running,
  pub taken-running : Running L r w → Running L r (take_spec w r L c d o).after
  taken-running = take-running w r L c d o

  -- in rooms of the same sizes.
  pub taken-sizes : SameSizes w (take_spec w r L c d o).after
  taken-sizes = take-sizes w r L c d o

  -- A chunk taken with 0 is one of the pack and has its length;
  pub taken-chunk : (take_spec w r L c d o).answer ≡ 0 → (c < count_of L) × (length d ≡ size chunk_size L c)
  taken-chunk e = let m = take-means w r L c d o e in (m.1, m.2)

  -- the map afterwards is the map before, and the chunk;
  pub taken-map : (take_spec w r L c d o).answer ≡ 0 → (x : ℕ) → x < count_of L
      → bit_at (take_spec w r L c d o).after.map x ≡ pick (eqb x c) true (bit_at w.map x)
  taken-map = take-map w r L c d o

  -- its bytes are those that came unless it was held before, and all other chunks have the bytes they had.
  pub taken-bytes : (take_spec w r L c d o).answer ≡ 0 → (x : ℕ) → x < count_of L
      → chunk_in L (take_spec w r L c d o).after.bytes x ≡ pick (bit_at w.map c) (chunk_in L w.bytes x) (pick (eqb x c) d (chunk_in L w.bytes x))
  taken-bytes = take-bytes w r L c d o

-- The node that is named (02, No. 3).
module _ (w : Rooms) (r : List ℕ) (L c : ℕ) (d : List ℕ) (o : Integrity) where
  -- One is named with 9 and 10, and with no other number.
  pub taken-named : is_named (take_spec w r L c d o).node ≡ among (9 ∷ 10 ∷ []) (take_spec w r L c d o).answer
  taken-named = names.take-named w r L c d o

  -- With 9 it is the first needed and missing one in the sending order,
  pub named-missing : (take_spec w r L c d o).answer ≡ 9
      → (b : ℕ) × ((take_spec w r L c d o).node ≡ Some b) × NamesMissing L w c o b
  named-missing = names.take-missing w r L c d o

  -- with 10 the trusted node missed, or the root.
  pub named-missed : (take_spec w r L c d o).answer ≡ 10
      → (b : ℕ) × ((take_spec w r L c d o).node ≡ Some b) × NamesMissed L r w c d o b
  named-missed = names.take-missed w r L c d o

  -- 9 is given exactly where a needed hash did not come, once 12, 11, 7 and 8 are ruled out.
  pub missing-nine : rooms_answer L w ≡ 0 → chunk_answer L c (length d) ≡ 0 → (AllCame L w c o → ⊥)
      → (take_spec w r L c d o).answer ≡ 9
  missing-nine p q = names.missing-nine w r L c d o (rw (p, q))

  pub came-not-nine : AllCame L w c o → (take_spec w r L c d o).answer ≢ 9
  came-not-nine = names.came-not-nine w r L c d o

  -- It is a node of the tree, so its number is below that which stands for none.
  pub named-inside : (b : ℕ) → (take_spec w r L c d o).node ≡ Some b → suc b < 2 * leaf_places (count_of L)
  named-inside = names.take-inside w r L c d o

  pub named_small : (b : ℕ) → (take_spec w r L c d o).node ≡ Some b → b < no_node
  named_small = names.take-small w r L c d o

-- Two sets of hashes that agree on those that are needed give the same answer, node and rooms: hashes not needed aren't
-- looked at.
pub needed_only : (w : Rooms) (r : List ℕ) (L c : ℕ) (d : List ℕ) (o p : Integrity) → SameNeeded L w c o p → take_spec w r L c d o ≡ take_spec w r L c d p
needed_only w r L c d o p A = take_same w L c o p A r d

-- A store that was started under the order of a content s holds its hashes.
pub started_true : (w : Rooms) (s : List ℕ) → (start_spec w (root_of s) (length s)).answer ≡ 0 → HoldsTrue (start_spec w (root_of s) (length s)).after s
started_true = start-true

module _ (w : Rooms) (s : List ℕ) (c : ℕ) (o : Integrity) (T : HoldsTrue w s) (B : BringsTrue s c o) where
  -- While it does, chunk c of s is taken with the hashes that go out with it,
  pub true-fits : rooms_answer (length s) w ≡ 0 → c < count_of (length s) → (take_spec w (root_of s) (length s) c (chunk_in (length s) s c) o).answer ≡ 0
  true-fits e l = take_true w s c o e l T B

  -- and the store still holds the hashes of s.
  pub stays-true : (take_spec w (root_of s) (length s) c (chunk_in (length s) s c) o).answer ≡ 0
      → HoldsTrue (take_spec w (root_of s) (length s) c (chunk_in (length s) s c) o).after s
  stays-true = keep-true w s c o T B

-- ---- what a running store holds

-- Its root is trusted.
pub running-root : (L : ℕ) (r : List ℕ) (w : Rooms) → Running L r w → bit_at w.trusted (root_node (count_of L)) ≡ true
running-root L r w R = R.root-trusted

-- Every chunk in its map hangs from the root.
pub running-hangs : (L : ℕ) (r : List ℕ) (w : Rooms) → Running L r w → (x : ℕ) → x < count_of L → bit_at w.map x ≡ true → HangsIn L r w x
running-hangs = hangs

-- Two whole stores under one root and length hold the same bytes over the length, or the walk names a collision.
pub whole-alike : (L : ℕ) (r : List ℕ) (w v : Rooms) → Running L r w → Running L r v → Whole L w → Whole L v → Alike L w v
whole-alike = alike
