-- Taking a chunk, whatever comes: a running store keeps running, and its map and its bytes change only as said. Assumes nothing.
use mathlib.Core.Path.{◌≡◌, refl, sym, ap, ◌∙◌}
use mathlib.Core.Logic.{◌≢◌}
use mathlib.Core.Bool.{Bool, true, false}
use mathlib.Core.List.{List}
use Prim.Native.Nat.{ℕ, suc, ◌+◌, ◌*◌, ◌≤◌, ◌<◌}
use native.Mathlib.Omega.{arith}
use native.Mathlib.Decide.{ℕ_discrete}
use borrow.Author.Tests.{eqb-true}
use lib.Dec.{eqb}
use lib.ListN.{length}
use lib.Seq.{length-paste}
use Rattle.bits.proofs.Promise.{bit_at, length-set_bit, row_room}
use Rattle.hash.proofs.Promise.{sha256}
use Rattle.base.specs.Pick.{pick}
use Rattle.tree.specs.Pack.{chunk_size, size, levels, leaf_places, root_node}
use Rattle.tree.specs.Peaks.{peaks}
use Rattle.tree.specs.State.{State}
use Rattle.tree.proofs.Sound.{adopted}
use Rattle.tree.specs.Verdicts.{every, number, named, peaks_trusted, reached, verdict}
use Rattle.tree.specs.Verdicts.{Verdict}
use Rattle.std.specs.Prelude.{Ok, Err}
use Rattle.tree.specs.declared.verdict.Fault.TheVariants.{Missing, WrongPeaks, WrongClimb}
use Rattle.verdict.specs.Room.{filler, put_hash}
use Rattle.verdict.specs.Integrity.{Integrity, came_from}
use Rattle.verdict.specs.Rooms.{Rooms, count_of, chunk_in, state_of}
use Rattle.store.proofs.Running.{SoundRooms, SameSizes, Running}
use Rattle.store.specs.Answers.{Enough, earlier, chunk_answer}
use Rattle.verdict.specs.Steps.{trusted_in, got_by, room_verdict}
use Rattle.store.specs.Storing.{mark, copied, stored, store_spec}
use Rattle.store.specs.Calls.{rooms_answer, take_spec}
use Rattle.verdict.proofs.RoomLaws.{length-put_hash}
use Rattle.verdict.proofs.VerdictLaws.{verdict_sees, fits-within}
use Rattle.store.proofs.PutLaws.{all-is}
use Rattle.store.proofs.StoringLaws.{length-path, length-open, length-mark}
use Rattle.store.proofs.AgreeLaws.{Fitting, stored-agrees, taken-sound}
use Rattle.store.proofs.AnswerLaws.{both_zero, chunk_facts}
use Rattle.store.proofs.CallLaws.{twice_same, twice-new, fits-at}
use Rattle.store.proofs.BegunLaws.{enough-order, enough_sizes, same_sizes}
use Rattle.store.proofs.RootLaws.{store_keeps}
use Rattle.tree.proofs.ChunkLaws.{chunk_inside}

-- ---- a refused chunk changes nothing, a taken one is stored

module _ (w : Rooms) (r : List ℕ) (L c : ℕ) (d : List ℕ) (o : Integrity) where
  abbrev told : Verdict
  told = verdict sha256 filler (count_of L) r (state_of L w) c d (came_from o)

  abbrev left : Rooms
  left = (take_spec w r L c d o).after

  abbrev answer-before : ℕ
  answer-before = earlier (rooms_answer L w) (chunk_answer L c (length d))

  abbrev height-reached : ℕ
  height-reached = reached (count_of L) (state_of L w) c

  pub take-refused-same : (take_spec w r L c d o).answer ≢ 0 → left ≡ w
  unfolding take_spec
  take-refused-same = twice_same answer-before (number told) (named told) w (store_spec w (count_of L) c height-reached d o)

  -- the chunk fits below a node of height t, and the rooms are those that storing leaves
  pub record Taken : Type 0 where
    pub answers-right : answer-before ≡ 0
    pub height : ℕ
    pub fits-there : room_verdict (count_of L) r w.hashes w.trusted c d o ≡ Ok height
    pub stored-so : left ≡ store_spec w (count_of L) c height d o

  told_is : room_verdict (count_of L) r w.hashes w.trusted c d o ≡ told
  told_is = verdict_sees (count_of L) r w.hashes w.trusted c d o L w.bytes w.map

  fits-zero : (v : Verdict) → told ≡ v → number v ≡ 0 → room_verdict (count_of L) r w.hashes w.trusted c d o ≡ Ok height-reached
  fits-zero (Ok t) e z = told_is ∙ e ∙ ap Ok (fits-at w r L (count_of L) c d o t (told_is ∙ e))
  fits-zero (Err (Missing b)) e z = absurd (omega arith)
  fits-zero (Err (WrongPeaks b)) e z = absurd (omega arith)
  fits-zero (Err (WrongClimb b)) e z = absurd (omega arith)

  pub taken : (take_spec w r L c d o).answer ≡ 0 → Taken
  unfolding take_spec
  taken e =
      let u = twice-new answer-before (number told) (named told) w (store_spec w (count_of L) c height-reached d o) e in
      record { answers-right = u.0; height = height-reached; fits-there = fits-zero told refl u.1; stored-so = u.2 }

  -- what the answer 0 says of the order, the rooms and the chunk
  pub take-means : (take_spec w r L c d o).answer ≡ 0 → Enough L w × (c < count_of L) × (length d ≡ size chunk_size L c)
  take-means e =
      let p = both_zero (rooms_answer L w) (chunk_answer L c (length d)) (taken e).answers-right in
      let g = chunk_facts L c (length d) p.1 in
      (enough-order L w p.0, g.0, g.1)

  pub fitting : (take_spec w r L c d o).answer ≡ 0 → Fitting L w (count_of L) c d
  fitting e =
      let m = take-means e in
      let R = m.0 in
      record {
        pack_is = refl;
        chunk_within = m.1;
        hashes_in = omega (arith, R.hashes_in);
        trusted_within = omega (arith, row_room w.trusted (2 * leaf_places (count_of L)) R.trusted_within);
        map_in = row_room w.map (count_of L) R.map_in;
        bytes_in = omega (arith, chunk_inside chunk_size L (omega arith) c m.1, m.2, R.bytes_in);
        chunk_is = m.2;
      }

  -- ---- soundness

  pub take-sound : SoundRooms L r w → SoundRooms L r left
  take-sound S = go (ℕ_discrete (take_spec w r L c d o).answer 0)
    where
      go : Dec ((take_spec w r L c d o).answer ≡ 0) → SoundRooms L r left
      go (no q) = rw (take-refused-same q) S
      go (yes e) =
          let t = taken e in
          rw t.stored-so (taken-sound L w (count_of L) c d r o (fitting e) t.height t.fits-there S)

  -- ---- sizes

  stored-sizes : (t : ℕ) → chunk_size * c + length d ≤ length w.bytes → SameSizes w (stored w (count_of L) c t d o)
  unfolding stored copied peaks_trusted
  stored-sizes t l = record {
    bytes-long = length-paste w.bytes (chunk_size * c) d (length d) l (omega arith);
    map-long = length-set_bit w.map c;
    hashes-long = ap length (all-is put_hash _ (count_of L) c t d (got_by o) w.hashes) ∙ length-path put_hash length-put_hash _ (got_by o) c t _ ∙ length-open put_hash length-put_hash (every (trusted_in w.trusted) (peaks (count_of L))) (got_by o) (count_of L) (suc (levels (count_of L))) w.hashes;
    trusted-long = ap length (all-is mark _ (count_of L) c t d (got_by o) w.trusted) ∙ length-path mark length-mark _ (got_by o) c t _ ∙ length-open mark length-mark (every (trusted_in w.trusted) (peaks (count_of L))) (got_by o) (count_of L) (suc (levels (count_of L))) w.trusted;
  }

  store-sizes : (t : ℕ) → chunk_size * c + length d ≤ length w.bytes → SameSizes w (store_spec w (count_of L) c t d o)
  unfolding store_spec
  store-sizes t l = go (bit_at w.map c)
    where
      go : (b : Bool) → SameSizes w (pick b w (stored w (count_of L) c t d o))
      go true = same_sizes w
      go false = stored-sizes t l

  pub take-sizes : SameSizes w left
  take-sizes = go (ℕ_discrete (take_spec w r L c d o).answer 0)
    where
      go : Dec ((take_spec w r L c d o).answer ≡ 0) → SameSizes w left
      go (no q) = rw (take-refused-same q) (same_sizes w)
      go (yes e) = let t = taken e in rw t.stored-so (store-sizes t.height (fitting e).bytes_in)

  take-root : bit_at w.trusted (root_node (count_of L)) ≡ true → bit_at left.trusted (root_node (count_of L)) ≡ true
  take-root b = go (ℕ_discrete (take_spec w r L c d o).answer 0)
    where
      go : Dec ((take_spec w r L c d o).answer ≡ 0) → bit_at left.trusted (root_node (count_of L)) ≡ true
      go (no q) = rw (take-refused-same q) b
      go (yes e) = let t = taken e in rw t.stored-so (store_keeps w (count_of L) c t.height d o (root_node (count_of L)) b)

  pub take-running : Running L r w → Running L r left
  take-running R = record {
    enough = enough_sizes L w left take-sizes R.enough;
    sound = take-sound R.sound;
    root-trusted = take-root R.root-trusted;
  }

  -- ---- the map and the bytes

  store-map : (t x : ℕ) → Fitting L w (count_of L) c d → t ≤ levels (count_of L) → x < count_of L
      → (bit_at (store_spec w (count_of L) c t d o).map x ≡ pick (eqb x c) true (bit_at w.map x))
      × (chunk_in L (store_spec w (count_of L) c t d o).bytes x ≡ pick (bit_at w.map c) (chunk_in L w.bytes x) (pick (eqb x c) d (chunk_in L w.bytes x)))
  unfolding store_spec
  store-map t x F h l = go (bit_at w.map c) refl
    where
      held-too : (b : Bool) → bit_at w.map c ≡ true → eqb x c ≡ b → bit_at w.map x ≡ pick b true (bit_at w.map x)
      held-too true e q = ap (bit_at w.map) (eqb-true x c q) ∙ e
      held-too false e q = refl

      peaks_trusted-so : (b : Bool) (s : State) → ((pick b s (adopted (count_of L) (got_by o) s)).in_map x ≡ s.in_map x) × ((pick b s (adopted (count_of L) (got_by o) s)).chunk x ≡ s.chunk x)
      peaks_trusted-so true s = (refl, refl)
      peaks_trusted-so false s = (refl, refl)

      go : (b : Bool) → bit_at w.map c ≡ b
          → (bit_at (pick b w (stored w (count_of L) c t d o)).map x ≡ pick (eqb x c) true (bit_at w.map x))
          × (chunk_in L (pick b w (stored w (count_of L) c t d o)).bytes x ≡ pick b (chunk_in L w.bytes x) (pick (eqb x c) d (chunk_in L w.bytes x)))
      go true e = (held-too (eqb x c) e refl, refl)
      go false e =
          let g = (stored-agrees L w (count_of L) c t d o F h).chunks_are x l in
          let k = peaks_trusted-so (every (trusted_in w.trusted) (peaks (count_of L))) (state_of L w) in (
            sym g.0 ∙ ap (pick (eqb x c) true) k.0,
            sym g.1 ∙ ap (pick (eqb x c) d) k.1,
          )

  -- the map afterwards: what was there, and the chunk that was taken
  pub take-map : (take_spec w r L c d o).answer ≡ 0 → (x : ℕ) → x < count_of L → bit_at left.map x ≡ pick (eqb x c) true (bit_at w.map x)
  take-map e x l =
      let t = taken e in
      let h = fits-within (count_of L) r w.hashes w.trusted c d o t.height (fitting e).chunk_within t.fits-there in
      ap (λ (v : Rooms). bit_at v.map x) t.stored-so ∙ (store-map t.height x (fitting e) h l).0

  -- the bytes afterwards: those of the chunk where it was not held before, all others as they were
  pub take-bytes : (take_spec w r L c d o).answer ≡ 0 → (x : ℕ) → x < count_of L
      → chunk_in L left.bytes x ≡ pick (bit_at w.map c) (chunk_in L w.bytes x) (pick (eqb x c) d (chunk_in L w.bytes x))
  take-bytes e x l =
      let t = taken e in
      let h = fits-within (count_of L) r w.hashes w.trusted c d o t.height (fitting e).chunk_within t.fits-there in
      ap (λ (v : Rooms). chunk_in L v.bytes x) t.stored-so ∙ (store-map t.height x (fitting e) h l).1
