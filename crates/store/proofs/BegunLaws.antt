-- A store that was started or built is running, with an empty map or a full one. Assumes nothing.
use mathlib.Core.Path.{◌≡◌, refl, sym, ap, ◌∙◌}
use mathlib.Core.Logic.{inr, ◌≢◌}
use mathlib.Core.Bool.{false}
use mathlib.Core.List.{List}
use Prim.Native.Nat.{ℕ, zero, suc, ◌*◌, ◌≤◌, ◌<◌}
use native.Mathlib.Omega.{arith}
use lib.ListN.{length, take}
use lib.Seq.{take-length, length-paste}
use Rattle.base.specs.Out.{out_of, unless}
use Rattle.bits.proofs.Promise.{bit_at, length-set_bit, length-set_range, row_room}
use Rattle.tree.specs.Pack.{levels, leaf_places, root_node}
use Rattle.verdict.specs.Room.{Digest, put_hash}
use Rattle.verdict.specs.Rooms.{Rooms, count_of}
use Rattle.store.specs.Storing.{mark, copied}
use Rattle.store.specs.Building.{clear_row, start_rooms, tree_of, root_of, build_rooms}
use Rattle.store.specs.Steps.{put_levels}
use Rattle.store.specs.Whole.{Whole}
use Rattle.store.proofs.Running.{SameSizes, Running}
use Rattle.store.specs.Answers.{Enough, earlier, length_answer, content_answer, room_answer, order_answer}
use Rattle.store.specs.Calls.{rooms_answer, start_spec, build_answer, build_spec}
use Rattle.verdict.proofs.RoomLaws.{length-put_hash}
use Rattle.store.proofs.CopyLaws.{copied-whole}
use Rattle.store.proofs.PutLaws.{built-each}
use Rattle.store.proofs.StoringLaws.{length-mark}
use Rattle.store.proofs.BuildingLaws.{length-levels}
use Rattle.store.proofs.StartedLaws.{cleared, length_cleared, start-sound}
use Rattle.store.proofs.BuiltLaws.{map-built, build-sound}
use Rattle.store.proofs.AnswerLaws.{both_zero, room_facts}
use Rattle.store.proofs.CallLaws.{unless-same, unless-new, content_long}
use Rattle.store.proofs.RootLaws.{start-root, build-root}

-- ---- rooms that are large enough

pub enough_is : (L : ℕ) (w : Rooms) → room_answer L (length w.bytes) (length w.map) (length w.hashes) (length w.trusted) ≡ 0 → Enough L w
enough_is L w e =
    let f = room_facts L (length w.bytes) (length w.map) (length w.hashes) (length w.trusted) e in
    record { bytes_in = f.0; map_in = f.1; hashes_in = f.2; trusted_within = f.3 }

pub enough-order : (L : ℕ) (w : Rooms) → rooms_answer L w ≡ 0 → Enough L w
unfolding order_answer
enough-order L w e =
    enough_is L w (both_zero (length_answer L) (room_answer L (length w.bytes) (length w.map) (length w.hashes) (length w.trusted)) e).1

pub enough_sizes : (L : ℕ) (w v : Rooms) → SameSizes w v → Enough L w → Enough L v
enough_sizes L w v s R = record {
  bytes_in = omega (arith, s.bytes-long, R.bytes_in);
  map_in = omega (arith, s.map-long, R.map_in);
  hashes_in = omega (arith, s.hashes-long, R.hashes_in);
  trusted_within = omega (arith, s.trusted-long, R.trusted_within);
}

pub same_sizes : (w : Rooms) → SameSizes w w
same_sizes w = record { bytes-long = refl; map-long = refl; hashes-long = refl; trusted-long = refl }

unless_sizes : (n : ℕ) (w x : Rooms) → (n ≡ 0 → SameSizes w x) → SameSizes w (unless n w (out_of 0 0 x)).after
unless_sizes zero w x s = s refl
unless_sizes (suc n) w x s = same_sizes w

-- ---- starting

module _ (w : Rooms) (r : List ℕ) (L : ℕ) where
  start-sizes : SameSizes w (start_rooms w (count_of L) r)
  unfolding start_rooms
  start-sizes = record {
    bytes-long = refl;
    map-long = length_cleared w.map (count_of L);
    hashes-long = length-put_hash w.hashes (root_node (count_of L)) r;
    trusted-long =
        length-set_bit (clear_row w.trusted (2 * leaf_places (count_of L))) (root_node (count_of L))
        ∙ length_cleared w.trusted (2 * leaf_places (count_of L));
  }

  pub starts : (start_spec w r L).answer ≡ 0 → (rooms_answer L w ≡ 0) × ((start_spec w r L).after ≡ start_rooms w (count_of L) r)
  unfolding start_spec
  starts = unless-new (rooms_answer L w) w (start_rooms w (count_of L) r)

  pub start-running : Digest r → (start_spec w r L).answer ≡ 0 → Running L r (start_spec w r L).after
  start-running D e =
      let s = starts e in
      let R = enough-order L w s.0 in
      rw s.1
      (record {
        enough = enough_sizes L w (start_rooms w (count_of L) r) start-sizes R;
        sound = start-sound L w (count_of L) r refl D (omega (arith, R.hashes_in)) (omega (arith, row_room w.trusted (2 * leaf_places (count_of L)) R.trusted_within)) (row_room w.map (count_of L) R.map_in);
        root-trusted = start-root w L R.trusted_within r;
      })

  pub start-not-same : (start_spec w r L).answer ≢ 0 → (start_spec w r L).after ≡ w
  unfolding start_spec
  start-not-same = unless-same (rooms_answer L w) w (start_rooms w (count_of L) r)

  pub start-same-sizes : SameSizes w (start_spec w r L).after
  unfolding start_spec
  start-same-sizes = unless_sizes (rooms_answer L w) w (start_rooms w (count_of L) r) (λ e. start-sizes)

  -- it has no chunk in its map
  pub start-empty : (start_spec w r L).answer ≡ 0 → (x : ℕ) → x < count_of L → bit_at (start_spec w r L).after.map x ≡ false
  unfolding start_rooms
  start-empty e x l = ap (λ (v : Rooms). bit_at v.map x) (starts e).1 ∙ cleared w.map (count_of L) x l

-- ---- building

module _ (w : Rooms) (L : ℕ) (s : List ℕ) where
  build-sizes : length s ≤ length w.bytes → SameSizes w (build_rooms w (count_of (length s)) s)
  unfolding build_rooms copied
  build-sizes l = record {
    bytes-long = length-paste w.bytes 0 s (length s) (omega arith) (omega arith);
    map-long = length-set_range (clear_row w.map (count_of (length s))) 0 (count_of (length s)) ∙ length_cleared w.map (count_of (length s));
    hashes-long =
        ap length (built-each put_hash s w.hashes)
        ∙ length-put_hash (put_levels put_hash (tree_of s) (count_of (length s)) (suc (levels (count_of (length s)))) w.hashes) (root_node (count_of (length s))) (root_of s)
        ∙ length-levels put_hash (tree_of s) length-put_hash (count_of (length s)) (suc (levels (count_of (length s)))) w.hashes;
    trusted-long =
        ap length (built-each mark s (clear_row w.trusted (2 * leaf_places (count_of (length s)))))
        ∙ length-set_bit (put_levels mark (tree_of s) (count_of (length s)) (suc (levels (count_of (length s)))) (clear_row w.trusted (2 * leaf_places (count_of (length s))))) (root_node (count_of (length s)))
        ∙ length-levels mark (tree_of s) length-mark (count_of (length s)) (suc (levels (count_of (length s)))) (clear_row w.trusted (2 * leaf_places (count_of (length s))))
        ∙ length_cleared w.trusted (2 * leaf_places (count_of (length s)));
  }

  abbrev answers : ℕ
  answers = build_answer L (length s) (length w.bytes) (length w.map) (length w.hashes) (length w.trusted)

  builds : (build_spec w L s).answer ≡ 0 → (answers ≡ 0) × ((build_spec w L s).after ≡ build_rooms w (count_of (length s)) s)
  unfolding build_spec
  builds = unless-new answers w (build_rooms w (count_of (length s)) s)

  -- the content has the order's length, and the rooms are large enough
  build-means : answers ≡ 0 → (length s ≡ L) × Enough L w
  unfolding build_answer
  build-means e =
      let p = both_zero (earlier (length_answer L) (content_answer L (length s))) (room_answer L (length w.bytes) (length w.map) (length w.hashes) (length w.trusted)) e in
      let q = both_zero (length_answer L) (content_answer L (length s)) p.0 in
      (content_long L (length s) q.1, enough_is L w p.1)

  pub build-running : (build_spec w L s).answer ≡ 0 → (length s ≡ L) × Running L (root_of s) (build_spec w L s).after
  build-running e =
      let b = builds e in
      let m = build-means b.0 in
      let R : Enough (length s) w = rw m.0 m.1 in
      let G : Running (length s) (root_of s) (build_rooms w (count_of (length s)) s) = record {
        enough = enough_sizes (length s) w (build_rooms w (count_of (length s)) s) (build-sizes R.bytes_in) R;
        sound = build-sound w s R.bytes_in (omega (arith, R.hashes_in)) (omega (arith, row_room w.trusted (2 * leaf_places (count_of (length s))) R.trusted_within)) (row_room w.map (count_of (length s)) R.map_in);
        root-trusted = build-root w (length s) R.trusted_within s;
      } in
      (m.0, rw (b.1, ← m.0) G)

  pub build-not-same : (build_spec w L s).answer ≢ 0 → (build_spec w L s).after ≡ w
  unfolding build_spec
  build-not-same = unless-same answers w (build_rooms w (count_of (length s)) s)

  pub build-same-sizes : SameSizes w (build_spec w L s).after
  unfolding build_spec
  build-same-sizes = unless_sizes answers w (build_rooms w (count_of (length s)) s) (λ e. let m = build-means e in build-sizes (omega (arith, m.0, m.1.bytes_in)))

  -- it holds the content
  pub build-bytes : (build_spec w L s).answer ≡ 0 → take L (build_spec w L s).after.bytes ≡ s
  unfolding build_rooms
  build-bytes e =
      let b = builds e in
      let m = build-means b.0 in
      ap (λ (v : Rooms). take L v.bytes) b.1
      ∙ copied-whole w.bytes s (omega (arith, m.0, m.1.bytes_in)) 0 L (inr (omega (arith, m.0)))
      ∙ ap (λ (n : ℕ). take n s) (sym m.0) ∙ take-length s

  -- it has all chunks in its map
  pub build-whole : (build_spec w L s).answer ≡ 0 → Whole L (build_spec w L s).after
  unfolding Whole
  build-whole e x l =
      let b = builds e in
      let m = build-means b.0 in
      let R : Enough (length s) w = rw m.0 m.1 in
      let k : x < count_of (length s) = rw m.0 l in
      ap (λ (v : Rooms). bit_at v.map x) b.1 ∙ sym (map-built s w x k (row_room w.map (count_of (length s)) R.map_in))
