-- The calls on the rooms: for every input the number given back, the node that it names and the rooms afterwards; none
-- has a reply. Assumes nothing.
use Rattle.std.specs.Prelude.{ℕ, List, length}
use Rattle.hash.proofs.Promise.{sha256}
use Rattle.base.specs.Out.{Out, out_of, unless_at, unless}
use Rattle.tree.specs.Verdicts.{number, named, reached, verdict}
use Rattle.verdict.specs.Room.{filler}
use Rattle.verdict.specs.Integrity.{Integrity, came_from}
use Rattle.verdict.specs.Rooms.{Rooms, count_of, state_of}
use Rattle.store.specs.Storing.{store_spec}
use Rattle.store.specs.Building.{start_rooms, build_rooms}
use Rattle.store.specs.Answers.{earlier, length_answer, content_answer, room_answer, order_answer, chunk_answer}

-- The rooms, by their lengths, for an order of length L.
abbrev pub rooms_answer : ℕ → Rooms → ℕ
rooms_answer L w = order_answer L (length w.bytes) (length w.map) (length w.hashes) (length w.trusted)

-- Starting a store under root r and length L.
unfoldable pub start_spec : Rooms → List ℕ → ℕ → Out Rooms
start_spec w r L = unless (rooms_answer L w) w (out_of 0 0 (start_rooms w (count_of L) r))

-- Building a store of length L from content s: 12 also where the content has another length.
unfoldable pub build_answer : ℕ → ℕ → ℕ → ℕ → ℕ → ℕ → ℕ
build_answer L n b m h t = earlier (earlier (length_answer L) (content_answer L n)) (room_answer L b m h t)

unfoldable pub build_spec : Rooms → ℕ → List ℕ → Out Rooms
build_spec w L s =
    unless (build_answer L (length s) (length w.bytes) (length w.map) (length w.hashes) (length w.trusted)) w
    (out_of 0 0 (build_rooms w (count_of (length s)) s))

-- Taking chunk c with the bytes d and the hashes that came with it: 12, 11, 7, 8, then by the verdict 9 or 10 with the
-- node that it names, or it is stored below the first node that counts as trusted.
unfoldable pub take_spec : Rooms → List ℕ → ℕ → ℕ → List ℕ → Integrity → Out Rooms
take_spec w r L c d o =
    let v = verdict sha256 filler (count_of L) r (state_of L w) c d (came_from o) in
    unless (earlier (rooms_answer L w) (chunk_answer L c (length d))) w
    (unless_at (number v) (named v) w
    (out_of 0 0 (store_spec w (count_of L) c (reached (count_of L) (state_of L w) c) d o)))
