-- A store that was started under the root of a content holds its hashes; each chunk of the content is taken with the hashes
-- that go out with it, and the store still holds its hashes then. Assumes nothing.
use mathlib.Core.Path.{◌≡◌, refl, sym, ap, ◌∙◌}
use mathlib.Core.Bool.{Bool, true, false}
use mathlib.Core.List.{List}
use Prim.Native.Nat.{ℕ, ◌*◌, ◌≤◌, ◌<◌}
use native.Mathlib.Omega.{arith}
use borrow.Author.Tests.{lt-leb, eq-eqb, eqb-true}
use lib.Dec.{eqb}
use lib.ListN.{length, drop, length-drop}
use lib.Seq.{length-take-le}
use Rattle.hash.proofs.Promise.{sha256}
use Rattle.bits.proofs.Promise.{bit_at, row_room}
use Rattle.base.specs.Pick.{pick}
use Rattle.base.proofs.PickLaws.{both_true}
use Rattle.tree.specs.Bin.{bin}
use Rattle.tree.specs.Pack.{chunk_size, size, levels, leaf_places}
use Rattle.tree.specs.Tree.{root}
use Rattle.tree.specs.Verdicts.{peaks_trusted, reached}
use Rattle.tree.proofs.Sound.{counted}
use Rattle.tree.proofs.ChunkLaws.{chunk_inside}
use Rattle.tree.proofs.TakeLaws.{fits-means}
use Rattle.tree.proofs.TrueLaws as theory
use Rattle.verdict.specs.Room.{filler, hash_in}
use Rattle.verdict.specs.Integrity.{Integrity, came_from}
use Rattle.verdict.specs.Rooms.{Rooms, count_of, chunk_in, state_of}
use Rattle.verdict.proofs.VerdictLaws.{verdict_sees, fits-within}
use Rattle.store.specs.Storing.{stored, store_spec}
use Rattle.store.specs.Building.{start_rooms, tree_of, root_of}
use Rattle.store.specs.Answers.{chunk_answer}
use Rattle.store.specs.Calls.{rooms_answer, start_spec, take_spec}
use Rattle.store.specs.Needed.{HoldsTrue, BringsTrue}
use Rattle.store.proofs.AcceptLaws.{root_digest}
use Rattle.store.proofs.AgreeLaws.{Fitting, stored-agrees}
use Rattle.store.proofs.StartedLaws.{start-agrees}
use Rattle.store.proofs.BegunLaws.{enough-order, starts}
use Rattle.store.proofs.TakenLaws.{taken, fitting}

-- ---- a store that was started

module _ (w : Rooms) (s : List ℕ) where
  abbrev L : ℕ
  L = length s

  abbrev N : ℕ
  N = count_of L

  root-held : (h a : ℕ) → (h ≡ levels N) × (a ≡ 0) → root_of s ≡ tree_of s h a
  unfolding root_of tree_of root
  root-held h a q = rw (q.0, q.1)

  pub start-true : (start_spec w (root_of s) L).answer ≡ 0 → HoldsTrue (start_spec w (root_of s) L).after s
  unfolding HoldsTrue
  start-true e h a al i f =
      let S = starts w (root_of s) L e in
      let R = enough-order L w S.0 in
      let g = (start-agrees L w N (root_of s) refl (root_digest s) (omega (arith, R.hashes_in)) (omega (arith, row_room w.trusted (2 * leaf_places N) R.trusted_within)) (row_room w.map N R.map_in)).nodes h a al i in
      let b : bit_at (start_rooms w N (root_of s)).trusted (bin h a) ≡ true = sym (ap (λ (v : Rooms). bit_at v.trusted (bin h a)) S.1) ∙ f in
      let q = both_true (eqb h (levels N)) (eqb a 0) (g.1 ∙ b) in
      let z : (h ≡ levels N) × (a ≡ 0) = (eqb-true h (levels N) q.0, eqb-true a 0 q.1) in
      ap (λ (v : Rooms). hash_in v.hashes (bin h a)) S.1
      ∙ sym g.0
      ∙ ap (λ (x : Bool). pick x (root_of s) (hash_in w.hashes (bin h a))) (g.1 ∙ b)
      ∙ root-held h a z

-- ---- a true chunk

-- a chunk of the pack with the length that it has
pub chunk-right : (L c n : ℕ) → c < count_of L → n ≡ size chunk_size L c → chunk_answer L c n ≡ 0
unfolding chunk_answer
chunk-right L c n l e = rw (lt-leb (count_of L) c l, eq-eqb n (size chunk_size L c) e)

chunk-long : (s : List ℕ) (c : ℕ) → c < count_of (length s) → length (chunk_in (length s) s c) ≡ size chunk_size (length s) c
chunk-long s c l =
    length-take-le (size chunk_size (length s) c) (drop (chunk_size * c) s)
    (rw (length-drop (chunk_size * c) s) (omega (arith, chunk_inside chunk_size (length s) (omega arith) c l)))

pub take_true : (w : Rooms) (s : List ℕ) (c : ℕ) (o : Integrity) → rooms_answer (length s) w ≡ 0 → c < count_of (length s) → HoldsTrue w s → BringsTrue s c o
    → (take_spec w (root_of s) (length s) c (chunk_in (length s) s c) o).answer ≡ 0
unfolding take_spec HoldsTrue BringsTrue tree_of root_of
take_true w s c o e l T B =
    rw (
      e,
      chunk-right (length s) c _ l (chunk-long s c l),
      theory.true-fits sha256 filler (count_of (length s)) (chunk_in (length s) s) (state_of (length s) w) T c l (came_from o) B,
    )

-- ---- what storing it writes

module _ (w : Rooms) (s : List ℕ) (c : ℕ) (o : Integrity) (T : HoldsTrue w s) (B : BringsTrue s c o) where
  stored-true : (t : ℕ) → Fitting (length s) w (count_of (length s)) c (chunk_in (length s) s c) → t ≤ levels (count_of (length s))
      → t ≡ reached (count_of (length s)) (state_of (length s) w) c → HoldsTrue (stored w (count_of (length s)) c t (chunk_in (length s) s c) o) s
  unfolding HoldsTrue BringsTrue tree_of counted peaks_trusted
  stored-true t F u q h a al i f =
      let g = (stored-agrees (length s) w (count_of (length s)) c t (chunk_in (length s) s c) o F u).nodes h a al i in
      sym g.0 ∙ (rw (← q) at (theory.hung-true sha256 filler (count_of (length s)) (chunk_in (length s) s) (state_of (length s) w) T c F.chunk_within (came_from o) B)) h a al i (g.1 ∙ f)

  store_true : (t : ℕ) → Fitting (length s) w (count_of (length s)) c (chunk_in (length s) s c) → t ≤ levels (count_of (length s))
      → t ≡ reached (count_of (length s)) (state_of (length s) w) c → HoldsTrue (store_spec w (count_of (length s)) c t (chunk_in (length s) s c) o) s
  unfolding store_spec
  store_true t F u q = go (bit_at w.map c)
    where
      go : (b : Bool) → HoldsTrue (pick b w (stored w (count_of (length s)) c t (chunk_in (length s) s c) o)) s
      go true = T
      go false = stored-true t F u q

  pub keep-true : (take_spec w (root_of s) (length s) c (chunk_in (length s) s c) o).answer ≡ 0
      → HoldsTrue (take_spec w (root_of s) (length s) c (chunk_in (length s) s c) o).after s
  keep-true e =
      let d = chunk_in (length s) s c in
      let N = count_of (length s) in
      let t = taken w (root_of s) (length s) c d o e in
      let F = fitting w (root_of s) (length s) c d o e in
      let u = fits-within N (root_of s) w.hashes w.trusted c d o t.height F.chunk_within t.fits-there in
      let v = sym (verdict_sees N (root_of s) w.hashes w.trusted c d o (length s) w.bytes w.map) ∙ t.fits-there in
      let q = (fits-means sha256 filler N (root_of s) (state_of (length s) w) c d (came_from o) t.height v).reached_is in
      rw t.stored-so (store_true t.height F u q)
