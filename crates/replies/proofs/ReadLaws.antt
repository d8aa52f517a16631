-- What a store sends passes the checks of whoever reads it, and reads back as the messages that it was made of. Assumes nothing.
use Prim.Native.Nat.{ℕ, suc, ◌+◌, ◌*◌, ◌<◌, ◌≤◌, ◌^◌}
use native.Mathlib.Omega.{arith}
use mathlib.Core.Path.{◌≡◌, refl}
use mathlib.Core.Logic.{◌≢◌}
use mathlib.Core.Bool.{Bool, true, false}
use mathlib.Core.List.{List, [], ◌∷◌, ◌++◌, map}
use borrow.Author.Tests.{eq-eqb, ne_eqb, le-ltb}
use lib.Dec.{eqb}
use lib.ListN.{length, get_or}
use Rattle.base.specs.Pick.{pick}
use Rattle.format.specs.declared.Format.{Format}
use Rattle.tree.proofs.Promise.{first, last, first_plus_last, num, chunk_size, chunks, max_length, sent, Differs, Distinct, sent_once}
use Rattle.wire.proofs.Promise.{min_size, named_size, everything_bin, place_most, seen, handshake_fault}
use Rattle.wire.specs.declared.message.Options.TheVariants.{Fixed}
use Rattle.wire.specs.declared.message.Message.TheVariants.{Handshake, Data, Ack}
use Rattle.writer.proofs.Promise.{item_of, encode, AllHaveWidths, Reads, nameable, fault_behind, Joining, noted_all, composed_reads, node-covers, node-nameable, chunk-nameable, not_everything}
use Rattle.replies.specs.Replies.{handshake_reply, ack_reply, hash_item, handshake_items, ack_items, chunk_items, chunk_reply}
use Rattle.replies.specs.Steps.{node_items}
use Rattle.replies.proofs.HashLaws.{item-writable}
use Rattle.replies.proofs.SendingLaws.{sent-long, sent-under}
use Rattle.replies.proofs.ReplyLaws.{handshake-writable, handshake-size, ack-writable, ack-size, data_writable, data_size}

-- ---- one message

pub handshake_reads : (F : Format) (to source : ℕ) (root : List ℕ) → to < 2 ^ 32 → source < 2 ^ 32 → source ≢ 0 → length root ≡ 32 → Reads F (handshake_reply F to source root) to (handshake_items source root)
unfolding handshake_reply handshake_fault
handshake_reads F to source root t s d l =
    composed_reads F to [] (item_of root (Handshake source (Fixed 0))) t tt s tt (handshake-writable F (length root) source l) (rw (ne_eqb source 0 d)) (omega (arith, handshake-size F source 0))

pub ack_reads : (F : Format) (to f l delay : ℕ) → to < 2 ^ 32 → f ≤ l → l < 2 ^ 32 → delay < 2 ^ 64 → nameable F f l ≡ true → f + l < everything_bin → Reads F (ack_reply F to f l delay) to (ack_items f l delay)
unfolding ack_reply
ack_reads F to f l delay t o h d named part =
    composed_reads F to [] (item_of [] (Ack f l delay)) t tt (omega arith, h, d) tt (ack-writable F 0 f l delay) (rw (named, not_everything F f l part, le-ltb l f o)) (omega (arith, ack-size F f l delay, place_most F))

-- ---- the hashes of a chunk

-- Entries are pairs.
abbrev Paired : List ℕ → Type 0
Paired [] = Unit {0}
Paired (x ∷ []) = ⊥
Paired (x ∷ y ∷ es) = Paired es

paired-more : (es : List ℕ) (b p : ℕ) → Paired es → Paired (es ++ (b ∷ p ∷ []))
paired-more [] b p h = tt
paired-more (x ∷ []) b p h = absurd h
paired-more (x ∷ y ∷ es) b p h = paired-more es b p h

-- None of the nodes is among the entries.
abbrev Unseen : List ℕ → List ℕ → Type 0
Unseen es [] = Unit {0}
Unseen es (b ∷ bs) = (seen b es ≡ false) × Unseen es bs

unseen_none : (bs : List ℕ) → Unseen [] bs
unfolding seen
unseen_none [] = tt
unseen_none (b ∷ bs) = (refl, unseen_none bs)

-- A node that is not among them, and not the one that is added.
unseen_one : (es : List ℕ) (x b p : ℕ) → Paired es → seen x es ≡ false → b ≢ x → seen x (es ++ (b ∷ p ∷ [])) ≡ false
unfolding seen
unseen_one [] x b p h s d = rw (ne_eqb b x d)
unseen_one (e ∷ []) x b p h s d = absurd h
unseen_one (e ∷ q ∷ es) x b p h s d = go (eqb e x) s (unseen_one es x b p h)
  where
    go : (t : Bool) → pick t true (seen x es) ≡ false → (seen x es ≡ false → b ≢ x → seen x (es ++ (b ∷ p ∷ [])) ≡ false) → pick t true (seen x (es ++ (b ∷ p ∷ []))) ≡ false
    go true s ih = s
    go false s ih = ih s d

unseen_more : (es : List ℕ) (b p : ℕ) (bs : List ℕ) → Paired es → Unseen es bs → Differs b bs → Unseen (es ++ (b ∷ p ∷ [])) bs
unseen_more es b p [] h u d = tt
unseen_more es b p (x ∷ bs) h u d = (unseen_one es x b p h u.0 d.0, unseen_more es b p bs h u.1 d.1)

-- The number of each is below that of everything.
abbrev Under : List ℕ → Type 0
Under bs = (i : ℕ) → get_or bs i 0 < everything_bin

module _ (hashes : List ℕ) where
  hashes-fit : (bs : List ℕ) → Under bs → AllHaveWidths (map (hash_item hashes) bs)
  unfolding hash_item
  hashes-fit [] h = tt
  hashes-fit (b ∷ bs) h = let s = h 0 in ((omega (arith, first_plus_last b), omega (arith, first_plus_last b)), hashes-fit bs (λ i. h (suc i)))

  module _ (F : Format) (to : ℕ) where
    -- The INTEGRITY messages of distinct nodes join a datagram that has none of them.
    hashes-join : (bs : List ℕ) (at : ℕ) (es : List ℕ) → Under bs → Paired es → Unseen es bs → Distinct bs → Joining F to at es (map (hash_item hashes) bs)
    unfolding hash_item
    hashes-join [] at es h p u d = tt
    hashes-join (b ∷ bs) at es h p u d =
        let s = h 0 in
        let place = at + named_size F in (
          item-writable F hashes b,
          rw (node-nameable F b (omega (arith, s)), not_everything F (first b) (last b) (omega (arith, s, first_plus_last b)), node-covers b, first_plus_last b) (rw u.0),
          tt,
          rw (first_plus_last b) (hashes-join bs _ (es ++ (b ∷ place ∷ [])) (λ i. h (suc i)) (paired-more es b place p) (unseen_more es b place bs p u.1 d.0) d.1),
        )

-- ---- a chunk with its hashes

data_fault : (F : Format) (es : List ℕ) (to at c time n : ℕ) → 2 * c < everything_bin → fault_behind F es to at (Data c c time 0 n) ≡ 0
data_fault F es to at c time n h = rw (chunk-nameable F c (omega (arith, h)), not_everything F c c (omega (arith, h)), eq-eqb c c refl)

pub chunk_reads : (F : Format) (hashes : List ℕ) (to N c time : ℕ) (bytes : List ℕ) → to < 2 ^ 32 → c < N → time < 2 ^ 64 → N ≤ chunks chunk_size max_length → length bytes ≤ chunk_size
    → Reads F (chunk_reply F hashes to N c time bytes) to (chunk_items hashes N c time bytes)
unfolding chunk_reply
chunk_reads F hashes to N c time bytes t inside d few short =
    let bs = map num (sent N c) in
    let is = node_items hashes (sent N c) in
    let n = length bytes in
    let h : c < 2 ^ 32 = omega arith in
    composed_reads F to is (item_of bytes (Data c c time 0 n)) t (hashes-fit hashes bs (sent-under N c few)) (h, h, d)
    (hashes-join hashes F to bs min_size [] (sent-under N c few) tt (unseen_none bs) (sent_once N c)) (data_writable F n c time)
    (data_fault F (noted_all F min_size [] is) to (min_size + length (encode F is)) c time n (omega arith))
    (omega (arith, sent-long F hashes N c few, data_size F c time 0 n, place_most F))
