-- The numbers that the calls on the rooms can give. Assumes nothing.
use Prim.Native.Nat.{ℕ}
use mathlib.Core.Path.{◌≡◌, refl}
use mathlib.Core.Bool.{◌&&◌, not}
use mathlib.Core.List.{List, [], ◌∷◌}
use lib.Dec.{leb, ltb, eqb}
use lib.ListN.{length}
use Rattle.base.specs.Among.{among, OneOf}
use Rattle.base.proofs.OutLaws.{at_one, unless-one}
use Rattle.base.proofs.AmongLaws.{all_among, pick-one, earlier-one, one_of_more}
use Rattle.hash.proofs.Promise.{sha256}
use Rattle.tree.specs.Pack.{chunk_size, max_length, size}
use Rattle.tree.specs.Verdicts.{number, named, verdict}
use Rattle.tree.specs.Verdicts.{Verdict}
use Rattle.std.specs.Prelude.{Ok, Err}
use Rattle.tree.specs.declared.verdict.Fault.TheVariants.{Missing, WrongPeaks, WrongClimb}
use Rattle.verdict.specs.Room.{filler}
use Rattle.verdict.specs.Integrity.{Integrity, came_from}
use Rattle.verdict.specs.Rooms.{Rooms, count_of, state_of}
use Rattle.store.specs.Answers.{earlier, length_answer, content_answer, map_words, hash_words, trusted_words, room_answer, order_answer, chunk_answer}
use Rattle.store.specs.Calls.{rooms_answer, build_answer, take_spec}

abbrev room_numbers : List ℕ
room_numbers = 0 ∷ 11 ∷ 12 ∷ []

pub length-one : (L : ℕ) → OneOf (0 ∷ 12 ∷ []) (length_answer L)
unfolding length_answer among
length-one L = let ms : List ℕ = 0 ∷ 12 ∷ [] in pick-one ms (eqb L 0) 12 _ refl (pick-one ms (ltb max_length L) 12 0 refl refl)

length-room-one : (L : ℕ) → OneOf room_numbers (length_answer L)
unfolding among all_among
length-room-one L = one_of_more (0 ∷ 12 ∷ []) room_numbers (length_answer L) refl (length-one L)

room-one : (L b m h t : ℕ) → OneOf room_numbers (room_answer L b m h t)
unfolding room_answer among
room-one L b m h t =
    pick-one room_numbers (leb L b && leb (map_words (count_of L)) m && leb (hash_words (count_of L)) h && leb (trusted_words (count_of L)) t) 0 11 refl refl

pub order-one : (L b m h t : ℕ) → OneOf (0 ∷ 11 ∷ 12 ∷ []) (order_answer L b m h t)
unfolding order_answer
order-one L b m h t = earlier-one room_numbers (length_answer L) (room_answer L b m h t) (length-room-one L) (room-one L b m h t)

pub build-one : (L n b m h t : ℕ) → OneOf (0 ∷ 11 ∷ 12 ∷ []) (build_answer L n b m h t)
unfolding build_answer among
build-one L n b m h t =
    let other = content_answer L n in
    earlier-one room_numbers (earlier (length_answer L) other) (room_answer L b m h t)
    (earlier-one room_numbers (length_answer L) other (length-room-one L) (pick-one room_numbers (not (eqb n L)) 12 0 refl refl))
    (room-one L b m h t)

-- ---- taking a chunk

abbrev chunk_numbers : List ℕ
chunk_numbers = 0 ∷ 7 ∷ 8 ∷ 9 ∷ 10 ∷ []

pub chunk-one : (L c n : ℕ) → OneOf (0 ∷ 7 ∷ 8 ∷ []) (chunk_answer L c n)
unfolding chunk_answer among
chunk-one L c n =
    let ms : List ℕ = 0 ∷ 7 ∷ 8 ∷ [] in
    pick-one ms (leb (count_of L) c) 7 _ refl (pick-one ms (not (eqb n (size chunk_size L c))) 8 0 refl refl)

verdict_one : (v : Verdict) → OneOf chunk_numbers (number v)
unfolding among
verdict_one (Ok t) = refl
verdict_one (Err (Missing b)) = refl
verdict_one (Err (WrongPeaks b)) = refl
verdict_one (Err (WrongClimb b)) = refl

-- Where the rooms suffice.
pub take-one : (w : Rooms) (r : List ℕ) (L c : ℕ) (d : List ℕ) (o : Integrity) → rooms_answer L w ≡ 0 → OneOf (0 ∷ 7 ∷ 8 ∷ 9 ∷ 10 ∷ []) (take_spec w r L c d o).answer
unfolding take_spec among all_among
take-one w r L c d o e =
    let v = verdict sha256 filler (count_of L) r (state_of L w) c d (came_from o) in
    rw e
    (unless-one chunk_numbers (chunk_answer L c (length d)) w _
    (one_of_more (0 ∷ 7 ∷ 8 ∷ []) chunk_numbers (chunk_answer L c (length d)) refl (chunk-one L c (length d)))
    (at_one (named v) chunk_numbers (number v) w _ (verdict_one v) refl))
