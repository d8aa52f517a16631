-- Rooms of the sizes that an order needs do for it and for a shorter one. Assumes nothing.
use mathlib.Core.Path.{◌≡◌, sym}
use Prim.Native.Nat.{ℕ, ◌*◌, ◌≤◌, ◌<◌}
use native.Mathlib.Omega.{arith}
use borrow.Author.Tests.{le-leb, eq-eqb}
use lib.ListN.{length}
use lib.Pow.{pow_mono}
use Rattle.bits.proofs.Promise.{row_words, row_least, row_words_lem}
use Rattle.tree.specs.Pack.{leaf_places}
use Rattle.tree.proofs.PackLaws.{levels_mono}
use Rattle.verdict.specs.Rooms.{Rooms, count_of}
use Rattle.store.specs.Answers.{length_answer, map_words, hash_words, trusted_words, Enough, room_answer, order_answer}
use Rattle.store.specs.Calls.{rooms_answer, build_answer}
use Rattle.store.proofs.AnswerLaws.{length_facts, earlier-zero, length-right, room_facts}
use Rattle.store.proofs.AcceptLaws.{order_accepted}

module _ (L b m h t : ℕ) (p : (L ≤ b) × (map_words (count_of L) ≤ m) × (hash_words (count_of L) ≤ h) × (trusted_words (count_of L) ≤ t)) where
  rooms-enough : room_answer L b m h t ≡ 0
  unfolding room_answer
  rooms-enough =
      rw (
        le-leb L b p.0,
        le-leb (map_words (count_of L)) m p.1,
        le-leb (hash_words (count_of L)) h p.2,
        le-leb (trusted_words (count_of L)) t p.3,
      )

  sizes-enough : length_answer L ≡ 0 → order_answer L b m h t ≡ 0
  unfolding order_answer
  sizes-enough z = rw (earlier-zero (length_answer L) (room_answer L b m h t) z) rooms-enough

module _ (L : ℕ) (w : Rooms) where
  pub order-enough : length_answer L ≡ 0 → Enough L w → rooms_answer L w ≡ 0
  order-enough z p = sizes-enough L _ _ _ _ (p.bytes_in, p.map_in, p.hashes_in, p.trusted_within) z

  pub build-enough : (n : ℕ) → length_answer L ≡ 0 → n ≡ L → Enough L w
      → build_answer L n (length w.bytes) (length w.map) (length w.hashes) (length w.trusted) ≡ 0
  unfolding build_answer
  build-enough n z e p = rw (z, eq-eqb n L e) (rooms-enough L _ _ _ _ (p.bytes_in, p.map_in, p.hashes_in, p.trusted_within))

-- A row of fewer bits has no more words.
pub row_mono : (m n : ℕ) → m ≤ n → row_words m ≤ row_words n
row_mono m n l = row_least m (row_words n) (omega (arith, (row_words_lem n).0))

module _ (K L : ℕ) (l : K ≤ L) where
  -- A shorter pack has no more chunks, and no more leaf places.
  pub count_mono : count_of K ≤ count_of L
  count_mono = omega arith

  places-mono : leaf_places (count_of K) ≤ leaf_places (count_of L)
  places-mono = pow_mono (levels_mono (count_of K) (count_of L) count_mono)

  pub order_shorter : (b m h t : ℕ) → 0 < K → order_answer L b m h t ≡ 0 → order_answer K b m h t ≡ 0
  order_shorter b m h t some e =
      let p = order_accepted L b m h t e in
      let q = length_facts L p.0 in
      let f = room_facts L b m h t p.1 in
      let r = row_mono (count_of K) (count_of L) count_mono in
      let s = row_mono (2 * leaf_places (count_of K)) (2 * leaf_places (count_of L)) (omega (arith, places-mono)) in
      sizes-enough K b m h t (omega (arith, f.0), omega (arith, f.1, r), omega (arith, f.2, places-mono), omega (arith, f.3, s))
      (sym (length-right K (λ z. omega arith) (omega arith)))
