-- A datagram written message by message: what is encoded, what stands in the room. Assumes nothing.
use Prim.Native.Nat.{ℕ, ◌+◌}
use native.Mathlib.Omega.{arith}
use mathlib.Core.Path.{◌≡◌, refl, sym, ap, ◌∙◌}
use mathlib.Core.List.{List, [], ◌∷◌, ◌++◌, append_assoc, append-nil}
use mathlib.Core.Bool.{true}
use lib.ListN.{length, length-append}
use Rattle.format.specs.declared.Format.{Format}
use Rattle.wire.proofs.Promise.{min_size}
use Rattle.writer.specs.declared.place.Writer.{Writer}
use Rattle.writer.proofs.Promise.{Wrote, wrote_none, wrote_then, wrote_as, bytes32, bytes_of, writable, size_of, Item, encode, message-size, size32}
use Rattle.replies.specs.Replies.{datagram}
use Rattle.replies.specs.Steps.{Puts, Sends}

-- ---- encoding

-- Messages behind messages are encoded behind them.
encode-append : (F : Format) (is js : List Item) → encode F (is ++ js) ≡ encode F is ++ encode F js
encode-append F [] js = refl
encode-append F (i ∷ is) js =
    let b = bytes_of F i.source i.message in
    ap (λ (r : List ℕ). b ++ r) (encode-append F is js) ∙ sym (append_assoc b (encode F is) (encode F js))

-- One message alone is encoded as its bytes.
encode_one : (F : Format) (i : Item) → encode F (i ∷ []) ≡ bytes_of F i.source i.message
encode_one F i = append-nil (bytes_of F i.source i.message)

-- A last message's bytes stand behind the others'.
encode-last : (F : Format) (is : List Item) (i : Item) → encode F (is ++ (i ∷ [])) ≡ encode F is ++ bytes_of F i.source i.message
encode-last F is i = encode-append F is (i ∷ []) ∙ ap (λ (r : List ℕ). encode F is ++ r) (encode_one F i)

-- A datagram is as long as its destination and its messages.
datagram-long : (F : Format) (to : ℕ) (is : List Item) → length (datagram F to is) ≡ min_size + length (encode F is)
datagram-long F to is = simp (length-append, size32)

-- A datagram with a last message is as long as its destination, the other messages and the size of the last.
pub datagram-last : (F : Format) (to : ℕ) (is : List Item) (i : Item) → writable F (length i.source) i.message ≡ true
    → length (datagram F to (is ++ (i ∷ []))) ≡ min_size + length (encode F is) + size_of F i.message
datagram-last F to is i w =
    let m = message-size F i.source i.message w in
    let n = length-append (encode F is) (bytes_of F i.source i.message) in
    datagram-long F to (is ++ (i ∷ [])) ∙ rw (encode-last F is i) (omega (arith, m, n))

-- ---- the messages in a room

-- No message.
pub puts_none : (w : Writer) → Puts w [] w
puts_none w = wrote_none w

-- A message's bytes are that message.
pub puts_one : (w : Writer) (i : Item) {v : Writer} → Wrote w v (bytes_of w.format i.source i.message) → Puts w (i ∷ []) v
puts_one w i e = wrote_as (sym (encode_one w.format i)) e

-- What was written by the format behind something was written by the format at its front.
behind : {u v w : Writer} {s : List ℕ} (is : List Item) → Wrote u v s → Puts v is w → Wrote v w (encode u.format is)
behind is p q = wrote_as (ap (λ (F : Format). encode F is) p.format) q

-- Messages behind messages.
pub puts_join : {u v w : Writer} (is js : List Item) → Puts u is v → Puts v js w → Puts u (is ++ js) w
puts_join {u} is js p q = wrote_as (sym (encode-append u.format is js)) (wrote_then p (behind js p q))

-- Messages behind a destination are a datagram with it.
pub puts_datagram : {u v w : Writer} (to : ℕ) (is : List Item) → u.at ≡ 0 → Wrote u v (bytes32 to) → Puts v is w
    → Sends u.room.now (datagram u.format to is) w.room.now w.at
puts_datagram {u} {v} {w} to is z p q =
    let e : Wrote u w (datagram u.format to is) = wrote_then p (behind is p q) in
    (omega (arith, z, e.at), rw z at e.bytes)
