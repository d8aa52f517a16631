-- The INTEGRITY messages of nodes: each can be written, its size and its bytes. Assumes nothing.
use Prim.Native.Nat.{ℕ, ◌*◌, ◌≤◌}
use native.Mathlib.Omega.{arith}
use mathlib.Core.Path.{◌≡◌, refl, sym}
use mathlib.Core.List.{List, [], ◌∷◌, map}
use mathlib.Core.Bool.{true}
use lib.ListN.{length, length-append}
use Rattle.format.specs.declared.Format.{Format}
use Rattle.tree.proofs.Promise.{first, last}
use Rattle.store.proofs.Promise.{hash_in, hash-length}
use Rattle.wire.proofs.Promise.{integrity_size, place_most}
use Rattle.wire.specs.declared.message.Message.TheVariants.{Integrity}
use Rattle.writer.specs.declared.place.Writer.{Writer}
use Rattle.writer.proofs.Promise.{Wrote, wrote_then, wrote_as, name_bytes, writable, size_of, bytes_of, encode, message-size, integrity-bytes}
use Rattle.replies.specs.Replies.{hash_item}
use Rattle.replies.specs.Steps.{Puts}
use Rattle.replies.proofs.DatagramLaws.{puts_one}

-- An INTEGRITY message can be written from the 32 bytes of its hash.
integrity-writable : (F : Format) (n f l : ℕ) → n ≡ 32 → writable F n (Integrity f l 0) ≡ true
unfolding writable
integrity-writable F n f l e = rw e refl

-- Its size.
integrity-size : (F : Format) (f l h : ℕ) → size_of F (Integrity f l h) ≡ integrity_size F
unfolding size_of
integrity-size F f l h = refl

-- ---- the items of nodes

-- The most bytes that an INTEGRITY message takes, by any method.
abbrev pub most_integrity : ℕ
most_integrity = 41

module _ (F : Format) (hashes : List ℕ) where
  -- The item of a node can be written.
  pub item-writable : (b : ℕ) → writable F (length (hash_item hashes b).source) (hash_item hashes b).message ≡ true
  unfolding hash_item
  item-writable b = integrity-writable F (length (hash_in hashes b)) (first b) (last b) (hash-length hashes b)

  item-size : (b : ℕ) → size_of F (hash_item hashes b).message ≡ integrity_size F
  unfolding hash_item
  item-size b = integrity-size F (first b) (last b) 0

  -- Items take no more than the most each.
  pub items-long : (bs : List ℕ) → length (encode F (map (hash_item hashes) bs)) ≤ most_integrity * length bs
  items-long [] = omega arith
  items-long (b ∷ bs) =
      let i = hash_item hashes b in
      omega (
        arith,
        items-long bs,
        message-size F i.source i.message (item-writable b),
        item-size b,
        place_most F,
        length-append (bytes_of F i.source i.message) (encode F (map (hash_item hashes) bs)),
      )

-- ---- a node into a room

-- Its chunks and its hash, one behind the other, are its item.
pub node-put : (hashes : List ℕ) (b : ℕ) {f l : ℕ} → f ≡ first b → l ≡ last b → {w v u : Writer} → Wrote w v (name_bytes w.format 4 f l)
    → Wrote v u (hash_in hashes b) → Puts w (hash_item hashes b ∷ []) u
unfolding hash_item
node-put hashes b e g {w} p q =
    puts_one w (hash_item hashes b)
    (wrote_as (sym (integrity-bytes w.format (hash_in hashes b) (first b) (last b) (hash-length hashes b)))
    (wrote_then (rw (e, g) at p) q))
