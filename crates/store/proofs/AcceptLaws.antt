-- What an answer of 0 says of the numbers before it, and that a call then answers 0. Assumes nothing.
use mathlib.Core.Path.{◌≡◌}
use mathlib.Core.List.{List}
use Prim.Native.Nat.{ℕ}
use lib.ListN.{length}
use Rattle.tree.specs.Pack.{levels}
use Rattle.verdict.specs.Room.{Digest}
use Rattle.verdict.specs.Rooms.{Rooms, count_of}
use Rattle.store.specs.Building.{root_of}
use Rattle.store.specs.Answers.{earlier, length_answer, content_answer, room_answer, order_answer}
use Rattle.store.specs.Calls.{rooms_answer, start_spec, build_answer, build_spec}
use Rattle.store.proofs.AnswerLaws.{both_zero}
use Rattle.store.proofs.CallLaws.{content_long}
use Rattle.store.proofs.BuildingLaws.{tree_digest}
use Rattle.store.proofs.PutLaws.{root_is}

-- Not 12, and not 11.
pub order_accepted : (L b m h t : ℕ) → order_answer L b m h t ≡ 0 → (length_answer L ≡ 0) × (room_answer L b m h t ≡ 0)
unfolding order_answer
order_accepted L b m h t e = both_zero (length_answer L) (room_answer L b m h t) e

-- For building, whose content has the order's length.
pub build_accepted : (L n b m h t : ℕ) → build_answer L n b m h t ≡ 0 → (length_answer L ≡ 0) × (n ≡ L) × (room_answer L b m h t ≡ 0)
unfolding build_answer
build_accepted L n b m h t e =
    let p = both_zero (earlier (length_answer L) (content_answer L n)) (room_answer L b m h t) e in
    let q = both_zero (length_answer L) (content_answer L n) p.0 in
    (q.0, content_long L n q.1, p.1)

-- A start that nothing refuses answers 0.
pub start-zero : (w : Rooms) (r : List ℕ) (L : ℕ) → rooms_answer L w ≡ 0 → (start_spec w r L).answer ≡ 0
unfolding start_spec
start-zero w r L e = rw e

-- So does a building.
pub build-zero : (w : Rooms) (L : ℕ) (s : List ℕ)
    → build_answer L (length s) (length w.bytes) (length w.map) (length w.hashes) (length w.trusted) ≡ 0 → (build_spec w L s).answer ≡ 0
unfolding build_spec
build-zero w L s e = rw e

-- The root of a content is 32 bytes.
pub root_digest : (s : List ℕ) → Digest (root_of s)
root_digest s = rw (root_is s) (tree_digest s (levels (count_of (length s))) 0)
