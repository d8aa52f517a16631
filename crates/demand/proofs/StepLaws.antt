-- What one call of a list keeps, and what it does to the chunk rooms. Assumes nothing.
use Prim.Native.Nat.{ℕ, zero, suc}
use mathlib.Core.Path.{◌≡◌, refl}
use mathlib.Core.Bool.{Bool, true, false}
use mathlib.Core.List.{List}
use mathlib.Core.Option.{Option, none, some}
use borrow.Author.Tests.{ne_eqb}
use native.Mathlib.Omega.{arith}
use lib.Dec.{eqb}
use lib.ListN.{length}
use Rattle.base.specs.Pick.{pick}
use Rattle.wire.proofs.Promise.{Layout}
use Rattle.wire.proofs.Promise.{Fault, HandshakeAlone, Messages, MessagesAndData}
use Rattle.writer.proofs.Promise.{within}
use Rattle.store.proofs.Promise.{Rooms, Integrity, take_spec as store_take}
use Rattle.order.specs.declared.Order.{Order}
use Rattle.bits.proofs.Promise.{length-clear_words}
use Rattle.effects.proofs.Promise.{peer_of, effects_lengths}
use Rattle.table.specs.declared.rows.Row.{Row}
use Rattle.table.proofs.Promise.{order_in, row_at, put_row, put-row-order, put-row-length}
use Rattle.channel.specs.World.{Channels, channels_of, World, Out, out_of, unless, beside, order_root, order_length, chunk_count, table_rows, row_bit}
use Rattle.channel.specs.Answers.{own_rooms_answer}
use Rattle.channel.specs.Opening.{calling_row, occupied, open_number, open_spec}
use Rattle.channel.specs.Take.{row_for, handshake_taken, messages_number, affected, messages_taken, data_by, store_out, data_taken, by_layout, take_spec, layout_in, messages_in}
use Rattle.channel.specs.Write.{write_number, write_spec}
use Rattle.demand.specs.Run.{Call, opening, taking, writing, asking, lend, step, data_for, brings}
use Rattle.base.proofs.OutLaws.{unless-keeps}
use Rattle.channel.proofs.KeepLaws.{take-keeps}

-- ---- what no call changes of the channels: the order, and how long the rooms are

pub record Kept : Type 0 where
  pub order : Order
  pub state-long : ℕ
  pub has-long : ℕ
  pub wants-long : ℕ

abbrev kept_of : Order → ℕ → ℕ → ℕ → Kept
kept_of o s h w = record { order = o; state-long = s; has-long = h; wants-long = w }

abbrev pub kept_in : Channels → Kept
kept_in ch = kept_of (order_in ch.state) (length ch.state) (length ch.has) (length ch.wants)

abbrev pub kept_by : World → Kept
kept_by w = kept_in w.channels

kept_same : {o p : Order} {s t h g w v : ℕ} → o ≡ p → s ≡ t → h ≡ g → w ≡ v → kept_of o s h w ≡ kept_of p t g v
kept_same a b c d = rw (a, b, c, d)

occupied-keeps : (ch : Channels) (r : Row) → kept_in (occupied ch r).after ≡ kept_in ch
unfolding occupied
occupied-keeps ch r =
    kept_same (put-row-order ch.state _ r) (put-row-length ch.state _ r) (length-clear_words ch.has _ _) (length-clear_words ch.wants _ _)

row_keeps : (ch : Channels) (i : ℕ) (r : Row) → kept_in (channels_of (put_row ch.state i r) ch.has ch.wants ch.reply) ≡ kept_in ch
row_keeps ch i r = kept_same (put-row-order ch.state i r) (put-row-length ch.state i r) refl refl

affected-keeps : (ch : Channels) (s : List ℕ) → kept_in (affected ch s) ≡ kept_in ch
unfolding affected
affected-keeps ch s =
    let st = ch.state in
    let i = row_for st s in
    let e = effects_lengths (chunk_count st) (row_bit (chunk_count st) i) (messages_in st s) (peer_of ch.has ch.wants (row_at (table_rows st) i).choked) in
    kept_same (put-row-order st i _) (put-row-length st i _) e.has-long e.wants-long

open-keeps : (w : World) (id : ℕ) → kept_by (open_spec w id).after ≡ kept_by w
unfolding open_spec
open-keeps w id =
    unless-keeps kept_by (open_number w id) w (beside w.rooms (occupied w.channels (calling_row id)))
    (occupied-keeps w.channels (calling_row id))

taken_keeps : (w : World) (clock id : ℕ) (s : List ℕ) → kept_by (take_spec w clock id s).after ≡ kept_by w
taken_keeps = take-keeps kept_in occupied-keeps row_keeps affected-keeps (λ ch s. refl)

write_keeps : (w : World) (id c clock : ℕ) → kept_by (write_spec w id c clock).after ≡ kept_by w
unfolding write_spec
write_keeps w id c clock = unless-keeps kept_by (write_number w id c) w _ refl

pub step_keeps : (w : World) (k : Call) → kept_by (step w k) ≡ kept_by w
step_keeps w (opening reply id) = open-keeps (lend w reply) id
step_keeps w (taking reply clock id s) = taken_keeps (lend w reply) clock id s
step_keeps w (writing reply id c clock) = write_keeps (lend w reply) id c clock
step_keeps w asking = refl

-- ---- the chunk rooms

-- What a call that may bring chunk bytes does to the chunk rooms: nothing, and it brings none; or it takes a chunk.
pub data Moved (w : World) (after : Rooms) (brought : ℕ → Option (List ℕ)) : Type 0 where
  stays : after ≡ w.rooms → ((x : ℕ) → brought x ≡ none) → Moved w after brought
  takes : (c : ℕ) (d : List ℕ) (o : Integrity)
      → (store_take w.rooms (order_root w.channels.state) (order_length w.channels.state) c d o).answer ≡ 0
      → after ≡ (store_take w.rooms (order_root w.channels.state) (order_length w.channels.state) c d o).after
      → ((x : ℕ) → brought x ≡ pick (eqb x c) (some d) none) → Moved w after brought

pick_same : (b : Bool) (o : Option (List ℕ)) → pick b o o ≡ o
pick_same true o = refl
pick_same false o = refl

-- A refused datagram brings nothing.
refused_none : (n : ℕ) (d : Option (List ℕ)) → pick (eqb (suc n) 0) d none ≡ none
refused_none n d = rw (ne_eqb (suc n) 0 (λ e. omega arith))

-- Neither does one without DATA, taken or not.
without : (w : World) (out : Out World) → out.after.rooms ≡ w.rooms → Moved w out.after.rooms (λ x. pick (eqb out.answer 0) none none)
without w out e = stays e (λ x. pick_same (eqb out.answer 0) none)

module _ (w : World) (clock : ℕ) (s es : List ℕ) (c t b n : ℕ) where
  data-by-moved : (a : ℕ) → (store_out w s es c b n).answer ≡ a
      → Moved w (data_by w clock s c t (store_out w s es c b n)).after.rooms (λ x. pick (eqb (data_by w clock s c t (store_out w s es c b n)).answer 0) (pick (eqb x c) (some (within s b n)) none) none)
  unfolding data_by
  data-by-moved zero e = rw e (takes c (within s b n) _ e refl (λ x. refl))
  data-by-moved (suc m) e = rw e (stays refl (λ x. refused_none m (pick (eqb x c) (some (within s b n)) none)))

  data-moved : (m : ℕ)
      → Moved w (unless m w (data_by w clock s c t (store_out w s es c b n))).after.rooms
      (λ x. pick (eqb (unless m w (data_by w clock s c t (store_out w s es c b n))).answer 0) (pick (eqb x c) (some (within s b n)) none) none)
  data-moved zero = data-by-moved (store_out w s es c b n).answer refl
  data-moved (suc m) = stays refl (λ x. refused_none m (pick (eqb x c) (some (within s b n)) none))

layout-moved : (w : World) (clock id : ℕ) (s : List ℕ) (l : Layout)
    → Moved w (by_layout w clock id s l).after.rooms (λ x. pick (eqb (by_layout w clock id s l).answer 0) (data_for x s l) none)
unfolding by_layout data_taken
layout-moved w clock id s (Fault n) = without w (out_of n 0 w) refl
layout-moved w clock id s (HandshakeAlone a o) = without w (beside w.rooms (handshake_taken w.channels id s a o)) refl
layout-moved w clock id s (Messages k) = without w (beside w.rooms (messages_taken w.channels s)) refl
layout-moved w clock id s (MessagesAndData c x b n k) = data-moved w clock s (layout_in w.channels.state s).entries c x b n (messages_number w.channels.state s)

take-moved : (w : World) (clock id : ℕ) (s : List ℕ)
    → Moved w (take_spec w clock id s).after.rooms (λ x. pick (eqb (take_spec w clock id s).answer 0) (data_for x s (layout_in w.channels.state s).layout) none)
unfolding take_spec
take-moved w clock id s = go (own_rooms_answer w)
  where
    go : (n : ℕ) → Moved w (unless n w (by_layout w clock id s (layout_in w.channels.state s).layout)).after.rooms
        (λ x. pick (eqb (unless n w (by_layout w clock id s (layout_in w.channels.state s).layout)).answer 0) (data_for x s (layout_in w.channels.state s).layout) none)
    go zero = layout-moved w clock id s (layout_in w.channels.state s).layout
    go (suc n) = stays refl (λ x. refused_none n (data_for x s (layout_in w.channels.state s).layout))

open-rooms : (w : World) (id : ℕ) → (open_spec w id).after.rooms ≡ w.rooms
unfolding open_spec
open-rooms w id = unless-keeps (λ (v : World). v.rooms) (open_number w id) w _ refl

write-rooms : (w : World) (id c clock : ℕ) → (write_spec w id c clock).after.rooms ≡ w.rooms
unfolding write_spec
write-rooms w id c clock = unless-keeps (λ (v : World). v.rooms) (write_number w id c) w _ refl

-- What one call of a list does to the chunk rooms, and what it brings.
pub step-moved : (w : World) (k : Call) → Moved w (step w k).rooms (brings w k)
step-moved w (opening reply id) = stays (open-rooms (lend w reply) id) (λ x. refl)
step-moved w (taking reply clock id s) = lent (take-moved (lend w reply) clock id s)
  where
    lent : {r : Rooms} {f : ℕ → Option (List ℕ)} → Moved (lend w reply) r f → Moved w r f
    lent (stays e n) = stays e n
    lent (takes c d o z e n) = takes c d o z e n
step-moved w (writing reply id c clock) = stays (write-rooms (lend w reply) id c clock) (λ x. refl)
step-moved w asking = stays refl (λ x. refl)
