-- A store that was built in its rooms is sound, whatever stood in them. Assumes nothing.
use mathlib.Core.Path.{◌≡◌, refl, sym, ap, ap₂, ◌∙◌}
use mathlib.Core.Logic.{◌⊎◌, inl, inr}
use mathlib.Core.Bool.{Bool, true, false}
use mathlib.Core.List.{List}
use Prim.Native.Nat.{ℕ, suc, ◌+◌, ◌*◌, ◌^◌, ◌≤◌, ◌<◌}
use native.Mathlib.Omega.{arith}
use native.Mathlib.Decide.{ℕ_discrete}
use borrow.Author.Tests.{lt-ltb, le-leb}
use lib.Dec.{eqb}
use lib.Pow.{pow_pos}
use lib.ListN.{length}
use Rattle.hash.proofs.Promise.{sha256}
use Rattle.bits.proofs.Promise.{bit_at, set_bit, length-set_bit, bit_at-set-same, bit_at-set-other, bit_at-set_range_in}
use Rattle.base.specs.Pick.{pick}
use Rattle.tree.specs.Bin.{bin}
use Rattle.tree.specs.Node.{above}
use Rattle.tree.specs.Pack.{chunk_size, size, levels}
use Rattle.tree.specs.Tree.{tree, root}
use Rattle.tree.proofs.Sound.{built}
use Rattle.verdict.specs.Room.{filler, hash_in, put_hash}
use Rattle.verdict.specs.Rooms.{Rooms, count_of, chunk_in, state_of}
use Rattle.store.proofs.Running.{SoundRooms}
use Rattle.store.specs.Storing.{mark}
use Rattle.store.specs.Building.{clear_row, tree_of, root_of, build_rooms}
use Rattle.store.specs.Steps.{put_levels}
use Rattle.verdict.proofs.RoomLaws.{length-put_hash, hash-same, hash-other}
use Rattle.store.proofs.CopyLaws.{copied-whole}
use Rattle.store.proofs.WrittenLaws.{bin_eq}
use Rattle.store.proofs.PutLaws.{root_is, built-each}
use Rattle.store.proofs.AgreeLaws.{Agrees}
use Rattle.store.proofs.BuildingLaws.{tree_digest, length-levels, levels-same, filled-fits}
use Rattle.store.proofs.StartedLaws.{length_cleared}
use Rattle.tree.proofs.BeginLaws.{built-sound}
use Rattle.tree.proofs.NodeLaws.{split, above-top}
use Rattle.tree.proofs.PackLaws.{levels-holds, high_bound}
use Rattle.tree.proofs.SoundLaws.{sound-agree}

tree_is : (s : List ℕ) (h a : ℕ) → tree sha256 filler (count_of (length s)) (chunk_in (length s) s) h a ≡ tree_of s h a
unfolding tree_of
tree_is s h a = refl

pub map-built : (s : List ℕ) (w : Rooms) (x : ℕ) → x < count_of (length s) → count_of (length s) ≤ length w.map * 32 → true ≡ (state_of (length s) (build_rooms w (count_of (length s)) s)).in_map x
unfolding build_rooms
map-built s w x i m =
    sym (bit_at-set_range_in (clear_row w.map (count_of (length s))) 0 (count_of (length s)) x (omega arith) (omega arith) (rw (length_cleared w.map (count_of (length s))) (omega arith)))

bytes-built : (w : Rooms) (s : List ℕ) (x : ℕ) → length s ≤ length w.bytes → chunk_in (length s) s x ≡ (state_of (length s) (build_rooms w (count_of (length s)) s)).chunk x
unfolding build_rooms
bytes-built w s x l = sym (copied-whole w.bytes s l (chunk_size * x) (size chunk_size (length s) x) (part (length s) x))
  where
    part : (n x : ℕ) → (size chunk_size n x ≡ 0) ⊎ (chunk_size * x + size chunk_size n x ≤ n)
    part n x = go (split n (chunk_size * x))
      where
        go : (n ≤ chunk_size * x) ⊎ (chunk_size * x < n) → (size chunk_size n x ≡ 0) ⊎ (chunk_size * x + size chunk_size n x ≤ n)
        go (inl u) = inl (omega arith)
        go (inr u) = inr (omega arith)

module _ (w : Rooms) (s : List ℕ) (bytes_in : length s ≤ length w.bytes)
    (hashes_in : 8 * 2 ^ suc (levels (count_of (length s))) ≤ length w.hashes) (trusted_within : 2 ^ suc (levels (count_of (length s))) ≤ length w.trusted * 32)
    (map_in : count_of (length s) ≤ length w.map * 32) where
  node-bin : (h a : ℕ) → a + 2 ^ h ≤ count_of (length s) → bin h a < 2 ^ suc (levels (count_of (length s)))
  node-bin h a i = omega (arith, levels-holds (count_of (length s)), pow_pos h)

  held-built : (h a : ℕ) → above h a ≡ a → a + 2 ^ h ≤ count_of (length s) → tree_of s h a ≡ (state_of (length s) (build_rooms w (count_of (length s)) s)).hash h a
  unfolding build_rooms
  held-built h a e i = go (ℕ_discrete (bin h a) b) ∙ sym (ap (λ (x : List ℕ). hash_in x (bin h a)) (built-each put_hash s w.hashes))
    where
      b : ℕ
      b = bin (levels (count_of (length s))) 0

      P : List ℕ
      P = put_levels put_hash (tree_of s) (count_of (length s)) (suc (levels (count_of (length s)))) w.hashes

      room : 16 * count_of (length s) ≤ length w.hashes + 8
      room = omega (arith, levels-holds (count_of (length s)))

      go : Dec (bin h a ≡ b) → tree_of s h a ≡ hash_in (put_hash P b (root_of s)) (bin h a)
      go (yes z) =
          let y = bin_eq h a (levels (count_of (length s))) 0 e (above-top (levels (count_of (length s))) 0 (pow_pos (levels (count_of (length s))))) z in
          ap₂ (tree_of s) y.0 y.1 ∙ sym (root_is s)
          ∙ sym (ap (hash_in (put_hash P b (root_of s))) z ∙ hash-same P b (root_of s) (rw (length-levels put_hash (tree_of s) length-put_hash (count_of (length s)) (suc (levels (count_of (length s)))) w.hashes) (omega (arith, pow_pos (levels (count_of (length s)))))) (rw (root_is s) (tree_digest s (levels (count_of (length s))) 0)))
      go (no z) =
          sym (hash-other P b (bin h a) (root_of s) z
          ∙ levels-same (List ℕ) put_hash hash_in (λ v. v) (λ x. 16 * count_of (length s) ≤ length x + 8) (count_of (length s)) (λ x p q v r t g. hash-same x (bin p q) v (filled-fits (count_of (length s)) p q x r t) g) hash-other
          (λ x k v r. rw (length-put_hash x k v) r) (tree_of s) (tree_digest s) (suc (levels (count_of (length s)))) w.hashes room h a (omega (arith, high_bound (count_of (length s)) h (omega arith))) e i)

  trust-built : (h a : ℕ) → above h a ≡ a → a + 2 ^ h ≤ count_of (length s) → true ≡ (state_of (length s) (build_rooms w (count_of (length s)) s)).trust h a
  unfolding build_rooms
  trust-built h a e i = go (ℕ_discrete (bin h a) b) ∙ sym (ap (λ (x : List ℕ). bit_at x (bin h a)) (built-each mark s l))
    where
      b : ℕ
      b = bin (levels (count_of (length s))) 0

      l : List ℕ
      l = clear_row w.trusted (2 * 2 ^ levels (count_of (length s)))

      P : List ℕ
      P = put_levels mark (tree_of s) (count_of (length s)) (suc (levels (count_of (length s)))) l

      len : length l ≡ length w.trusted
      len = length_cleared w.trusted (2 * 2 ^ levels (count_of (length s)))

      go : Dec (bin h a ≡ b) → true ≡ bit_at (set_bit P b) (bin h a)
      go (yes z) =
          sym (ap (bit_at (set_bit P b)) z ∙ bit_at-set-same P b (rw (length-levels mark (tree_of s) (λ x k v. length-set_bit x k) (count_of (length s)) (suc (levels (count_of (length s)))) l, len) (omega (arith, pow_pos (levels (count_of (length s)))))))
      go (no z) =
          sym (bit_at-set-other P b (bin h a) z
          ∙ levels-same Bool mark bit_at (λ v. true) (λ x. 2 ^ suc (levels (count_of (length s))) ≤ length x * 32) (count_of (length s)) (λ x p q v r t g. bit_at-set-same x (bin p q) (omega (arith, node-bin p q t))) (λ x k y v n. bit_at-set-other x k y n)
          (λ x k v r. rw (length-set_bit x k) r) (tree_of s) (tree_digest s) (suc (levels (count_of (length s)))) l (rw len trusted_within) h a (omega (arith, high_bound (count_of (length s)) h (omega arith))) e i)

  pub build-agrees : Agrees (count_of (length s)) (built sha256 filler (count_of (length s)) (chunk_in (length s) s)) (state_of (length s) (build_rooms w (count_of (length s)) s))
  build-agrees = record {
    nodes = λ h a e i. (held-tree h a ∙ held-built h a e i, ap (λ (x : Bool). pick x true (pick (eqb h (levels (count_of (length s)))) (eqb a 0) false)) (le-leb (a + 2 ^ h) (count_of (length s)) i) ∙ trust-built h a e i);
    chunks_are = λ x i. (lt-ltb x (count_of (length s)) i ∙ has-built x i, chunk-built x);
  }
    where
      held-tree : (h a : ℕ) → tree sha256 filler (count_of (length s)) (chunk_in (length s) s) h a ≡ tree_of s h a
      held-tree h a = tree_is s h a

      has-built : (x : ℕ) → x < count_of (length s) → true ≡ (state_of (length s) (build_rooms w (count_of (length s)) s)).in_map x
      has-built x i = map-built s w x i map_in

      chunk-built : (x : ℕ) → chunk_in (length s) s x ≡ (state_of (length s) (build_rooms w (count_of (length s)) s)).chunk x
      chunk-built x = bytes-built w s x bytes_in

  pub build-sound : SoundRooms (length s) (root_of s) (build_rooms w (count_of (length s)) s)
  unfolding SoundRooms root_of
  build-sound =
      let G = build-agrees in
      sound-agree sha256 filler (count_of (length s)) (root sha256 filler (count_of (length s)) (chunk_in (length s) s)) (built sha256 filler (count_of (length s)) (chunk_in (length s) s)) (state_of (length s) (build_rooms w (count_of (length s)) s)) G.nodes G.chunks_are (built-sound sha256 filler (count_of (length s)) (chunk_in (length s) s))
