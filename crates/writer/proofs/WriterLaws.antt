-- Bytes written one behind the other. Assumes nothing.
use Prim.Native.Nat.{ℕ, zero, suc, ◌+◌, ◌-◌, ◌/◌, ◌%◌, ◌^◌, ◌≤◌, ◌<◌}
use native.Mathlib.Omega.{arith}
use mathlib.Core.Path.{◌≡◌, refl, sym, ◌∙◌}
use mathlib.Core.List.{List, [], ◌++◌, append_assoc}
use lib.ListN.{length, get_or, take, drop, length-append}
use lib.Seq.{sets-eq}
use borrow.Rule.Slice.PartMut.{put_mid, Post-is}
use Rattle.std.specs.Int.{to_be_bytes, w32, w64}
use Rattle.std.proofs.lemmas.Nat.{be_bytes_8}
use Rattle.wire.specs.Bytes.{placed}
use Rattle.wire.proofs.PlacedLaws.{placed-none, placed-then}
use Rattle.writer.specs.Bytes.{bytes32, bytes64}
use Rattle.writer.proofs.PlaceLaws.{size64}
use Rattle.writer.proofs.NumberLaws.{joined32}
use Rattle.writer.specs.declared.place.Writer.{Writer}
use Rattle.writer.specs.Writer.{Wrote}

-- no byte
pub wrote_none : (w : Writer) → Wrote w w []
wrote_none w = record { room = refl; size = refl; format = refl; bytes = placed-none w.room.now w.at; at = omega arith }

-- one run behind another
pub wrote_then : {u v w : Writer} {s t : List ℕ} → Wrote u v s → Wrote v w t → Wrote u w (s ++ t)
wrote_then {u} {v} {w} {s} {t} p q = record {
  room = q.room ∙ p.room;
  size = q.size ∙ p.size;
  format = q.format ∙ p.format;
  bytes = placed-then u.room.now u.at s t v.at (sym p.at) p.bytes q.bytes;
  at = omega (arith, p.at, q.at, length-append s t);
}

pub wrote_as : {w v : Writer} {s t : List ℕ} → s ≡ t → Wrote w v s → Wrote w v t
wrote_as e h = rw e at h

-- What is known of a value, of one that is the same by a proof found last.
pub then_same : {A : Type 0} {x y z : A} → y ≡ z → x ≡ y → x ≡ z
then_same e d = d ∙ e

-- ---- one run

-- a slice copied into the room
pub placed_mid : (l : List ℕ) (at : ℕ) (s : List ℕ) → at + length s ≤ length l → {m : List ℕ} → m ≡ s → put_mid at (at + length s - at) l m ≡ placed l at s
unfolding placed
placed_mid l at s h e = rw (e, Post-is at (at + length s) l (omega arith)) (sym (sets-eq s l at h ∙ append_assoc (take at l) s (drop (at + length s) l)))

-- a word copied to its front
pub front_word : (l : List ℕ) (x : ℕ) → 4 ≤ length l → {m : List ℕ} → m ≡ bytes32 x → m ++ drop 4 l ≡ placed l 0 (bytes32 x)
unfolding placed bytes32
front_word l x h e = rw e (sym (sets-eq (bytes32 x) l 0 h))

-- the bytes of numbers
pub be32_bytes : (x : ℕ) → to_be_bytes w32 x ≡ bytes32 x
unfolding bytes32
be32_bytes x = refl

small64 : (x i : ℕ) → get_or (bytes64 x) i 0 < 256
unfolding bytes64 bytes32
small64 x zero = omega arith
small64 x (suc zero) = omega arith
small64 x (suc (suc zero)) = omega arith
small64 x (suc (suc (suc zero))) = omega arith
small64 x (suc (suc (suc (suc zero)))) = omega arith
small64 x (suc (suc (suc (suc (suc zero))))) = omega arith
small64 x (suc (suc (suc (suc (suc (suc zero)))))) = omega arith
small64 x (suc (suc (suc (suc (suc (suc (suc zero))))))) = omega arith
small64 x (suc (suc (suc (suc (suc (suc (suc (suc i)))))))) = omega arith

pub be64_bytes : (x : ℕ) → x < 2 ^ 64 → to_be_bytes w64 x ≡ bytes64 x
unfolding bytes64 bytes32
be64_bytes x h = be_bytes_8 (bytes64 x) x (size64 x) (small64 x) (omega (arith, joined32 (x / 4294967296) (omega arith), joined32 (x % 4294967296) (omega arith)))
