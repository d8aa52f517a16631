-- DATA: the ACK, and the chunk taken by the store, return by return as the code has them. Assumes nothing.
use Rattle.std.proofs.Common.{◌≡◌, ℕ, ◌+◌, ◌-◌, ◌<◌, true, ◌≢◌, List, length, take, drop, sym, refl, ap, ◌∙◌, arith, eq-eqb}
use Rattle.bits.proofs.Promise.{bit_at}
use Rattle.wire.proofs.Promise.{placed}
use Rattle.writer.proofs.Promise.{within, nameable}
use Rattle.held.proofs.Promise.{Biggest, complete_interval, complete-biggest}
use Rattle.wire.specs.declared.range.Range.{Range}
use Rattle.table.proofs.Promise.{order_in}
use Rattle.order.specs.declared.Order.{Order}
use Rattle.hash.proofs.Promise.{bytes_of}
use Rattle.store.proofs.Promise.{Rooms, Integrity, count_of, length_answer, length_accepted, integrity_of}
use Rattle.store.proofs.Promise.{take_spec as store_take, refused-same, taken-chunk, taken-map}
use Rattle.channel.specs.World.{Channels, channels_of, World, Out, out_at, out_of, order_length, chunk_count}
use Rattle.channel.specs.World.{order_format}
use Rattle.channel.specs.Take.{messages_number, affected, acknowledged, acknowledgement}
use Rattle.channel.specs.Take.{data_by, store_out, data_taken}
use Rattle.base.proofs.OutLaws.{at-not, at_done, unless-done}
use Rattle.base.specs.Out.{Named}
use Rattle.format.specs.declared.Format.{Format}

-- ---- the ACK

-- The biggest complete interval around a held chunk.
pub acknowledged-biggest : (st map : List ℕ) (c : ℕ) → length_answer (order_length st) ≡ 0 → c < chunk_count st
    → bit_at map c ≡ true
    → Biggest (order_format st) map (chunk_count st) c (acknowledged st map c)
acknowledged-biggest st map c limit h e =
    complete-biggest (order_format st) map (chunk_count st) c h e
    (omega (arith, (length_accepted (order_length st) limit).1))

module _ (st map : List ℕ) (c : ℕ) {n : ℕ} {F : Format} {v : Range} (fe : F ≡ order_format st)
    (ne : n ≡ chunk_count st) (ve : v ≡ complete_interval F map n c) where
  -- The method names it.
  pub ack-named : length_answer (order_length st) ≡ 0 → c < chunk_count st → bit_at map c ≡ true
      → nameable F v.first v.last ≡ true
  ack-named limit h e = rw (ve, fe, ne) (acknowledged-biggest st map c limit h e).complete.named

-- ---- DATA

-- The chunk's bytes, from the place where they begin to where they end.
pub part_is : (s : List ℕ) (b n : ℕ) → take (b + n - b) (drop b s) ≡ within s b n
part_is s b n = let e : b + n - b ≡ n = omega arith in rw e

-- A chunk taken with 0 is one of the pack, and in the map afterwards.
pub store-held : (w : Rooms) (r : List ℕ) (L c : ℕ) (d : List ℕ) (o : Integrity) → (store_take w r L c d o).answer ≡ 0
    → (c < count_of L) × (bit_at (store_take w r L c d o).after.map c ≡ true)
store-held w r L c d o z =
    let h = (taken-chunk w r L c d o z).0 in
    (h, taken-map w r L c d o z c h ∙ rw (eq-eqb c c refl))

-- Messages with DATA that are not refused; m is the store's number.
module _ (w : World) (clock : ℕ) (s es : List ℕ) (c x b n : ℕ) (z : 0 ≡ messages_number w.channels.state s)
    {o : Order} (oe : o ≡ order_in w.channels.state) {d : List ℕ} (de : d ≡ within s b n) {m : ℕ} {node : Named} {after : Rooms}
    (me : out_at m 0 node after ≡ store_take w.rooms (bytes_of o.root.words) o.length c d (integrity_of es s)) where
  out-is : out_at m 0 node after ≡ store_out w s es c b n
  out-is = rw (oe, de) at me

  answer-is : m ≡ (store_out w s es c b n).answer
  answer-is = ap (λ (o : Out Rooms). o.answer) out-is

  after_is : after ≡ (store_out w s es c b n).after
  after_is = ap (λ (o : Out Rooms). o.after) out-is

  -- 0: the chunk is one of the pack, and held now.
  pub data-held : m ≡ 0 → (c < chunk_count w.channels.state) × (bit_at after.map c ≡ true)
  data-held q =
      let h = store-held w.rooms _ _ c _ _ (sym answer-is ∙ q) in
      (h.0, ap (λ (r : Rooms). bit_at r.map c) after_is ∙ h.1)

  settled : {out : Out World} → out ≡ data_by w clock s c x (store_out w s es c b n)
      → out ≡ data_taken w clock s es c x b n
  unfolding data_taken
  settled e = e ∙ unless-done _ w _ (sym z)

  -- 8, 9 or 10: the store left its rooms as they were.
  pub data-unfit : m ≢ 0
      → out_at m 0 node (record { rooms = after; channels = w.channels }) ≡ data_taken w clock s es c x b n
  unfolding data_by
  data-unfit d =
      let not : (store_out w s es c b n).answer ≢ 0 = λ q. d (answer-is ∙ q) in
      let same = after_is ∙ refused-same w.rooms _ _ c _ _ not in
      settled
      (ap (λ (g : Rooms). out_at m 0 node (record { rooms = g; channels = w.channels })) same
      ∙ ap (λ (y : Out Rooms). out_at y.answer 0 y.node w) out-is
      ∙ at-not (store_out w s es c b n).node (store_out w s es c b n).answer w _ not)

  -- Stored, and acknowledged.
  pub data-done : m ≡ 0 → {len : ℕ} {p : List ℕ} {ch : Channels}
      → (len ≡ length (acknowledgement w.channels.state after.map s clock c x))
      × (p ≡ placed w.channels.reply 0 (acknowledgement w.channels.state after.map s clock c x))
      → ch ≡ affected (channels_of w.channels.state w.channels.has w.channels.wants p) s
      → out_of 0 len (record { rooms = after; channels = ch }) ≡ data_taken w clock s es c x b n
  unfolding data_by affected
  data-done q a e =
      settled (rw (a.0, e, a.1, after_is) (at_done _ (store_out w s es c b n).answer w _ (sym answer-is ∙ q)))
