-- Each chunk in the map of a running store hangs, and two whole packs of one order are alike. Assumes nothing.
use mathlib.Core.Path.{◌≡◌, refl}
use mathlib.Core.Bool.{true}
use mathlib.Core.List.{List, [], ◌∷◌, ◌++◌}
use Prim.Native.Nat.{ℕ, zero, suc, ◌+◌, ◌*◌, ◌<◌}
use native.Mathlib.Omega.{arith}
use lib.ListN.{length, take, drop}
use lib.Seq.{get_or-drop}
use Rattle.hash.proofs.Promise.{sha256, Bytes, sha256-length, sha256-bytes}
use Rattle.bits.proofs.Promise.{bit_at}
use Rattle.tree.specs.Bin.{bin}
use Rattle.tree.specs.Pack.{chunk_size, size}
use Rattle.tree.proofs.Sound.{Sound}
use Rattle.tree.specs.Walk.{Hangs, string, here, there}
use Rattle.tree.proofs.WalkLaws.{Compared, equal, colliding, string-all, compare}
use Rattle.verdict.specs.Room.{filler, Digest}
use Rattle.verdict.specs.Rooms.{Rooms, count_of, state_of}
use Rattle.store.proofs.Running.{SoundRooms, Running}
use Rattle.store.specs.Whole.{HangsIn, Whole, Alike, same_bytes, collides}
use Rattle.verdict.proofs.RoomLaws.{digest_filler, digest_in, hash-length}
use Rattle.tree.proofs.ChunkLaws.{parts-alike}
use Rattle.tree.proofs.SoundLaws.{sound-hangs}

module _ (L : ℕ) (r : List ℕ) (w : Rooms) (R : Running L r w) where
  sound-of : SoundRooms L r w → Sound sha256 filler (count_of L) r (state_of L w)
  unfolding SoundRooms
  sound-of S = S

  pub hangs : (x : ℕ) → x < count_of L → bit_at w.map x ≡ true → HangsIn L r w x
  unfolding HangsIn
  hangs x l e = sound-hangs sha256 filler (count_of L) r (state_of L w) (sound-of R.sound) x l e

  pub whole-hangs : Whole L w → (x : ℕ) → x < count_of L → Hangs sha256 filler (count_of L) r (state_of L w) x
  unfolding Whole
  whole-hangs W x l = sound-hangs sha256 filler (count_of L) r (state_of L w) (sound-of R.sound) x l (W x l)

-- ---- two whole packs

filler-length : length filler ≡ 32
unfolding filler
filler-length = refl

-- strings of bytes, joined and cut
bytes_join : (x y : List ℕ) → Bytes x → Bytes y → Bytes (x ++ y)
bytes_join [] y p q i = q i
bytes_join (a ∷ x) y p q zero = p zero
bytes_join (a ∷ x) y p q (suc i) = bytes_join x y (λ j. p (suc j)) q i

bytes_take : (n : ℕ) (x : List ℕ) → Bytes x → Bytes (take n x)
bytes_take zero x p i = omega arith
bytes_take (suc n) [] p i = omega arith
bytes_take (suc n) (a ∷ x) p zero = p zero
bytes_take (suc n) (a ∷ x) p (suc i) = bytes_take n x (λ j. p (suc j)) i

bytes_drop : (n : ℕ) (x : List ℕ) → Bytes x → Bytes (drop n x)
bytes_drop n x p i = rw (get_or-drop n x i 0) (p (n + i))

module _ (L : ℕ) where
  strings-bytes : (w : Rooms) → Bytes w.bytes → (h a : ℕ) → Bytes (string sha256 filler (count_of L) (state_of L w) h a)
  unfolding Digest
  strings-bytes w p =
      string-all sha256 filler (count_of L) Bytes digest_filler.0 sha256-bytes bytes_join (state_of L w)
      (λ h a. (digest_in w.hashes (bin h a)).0)
      (λ x. bytes_take (size chunk_size L x) (drop (chunk_size * x) w.bytes) (bytes_drop (chunk_size * x) w.bytes p))

  names-bytes : (w v : Rooms) (c : ℕ) → Bytes w.bytes → Bytes v.bytes
      → Bytes (here sha256 filler (count_of L) (state_of L w) (state_of L v) c) × Bytes (there sha256 filler (count_of L) (state_of L w) (state_of L v) c)
  unfolding here there
  names-bytes w v c p q = (strings-bytes w p _ _, strings-bytes v q _ _)

pub alike : (L : ℕ) (r : List ℕ) (w v : Rooms) → Running L r w → Running L r v → Whole L w → Whole L v → Alike L w v
alike L r w v R S p q =
    go (compare sha256 filler (count_of L) 32 filler-length sha256-length r (state_of L w) (state_of L v)
    (λ h a. hash-length w.hashes (bin h a)) (λ h a. hash-length v.hashes (bin h a)) (whole-hangs L r w R p) (whole-hangs L r v S q))
  where
    go : Compared sha256 filler (count_of L) (state_of L w) (state_of L v) → Alike L w v
    go (equal e) = same_bytes (parts-alike chunk_size L (omega arith) w.bytes v.bytes R.enough.bytes_in S.enough.bytes_in e)
    go (colliding c p q) = collides c p q (names-bytes L w v c)
