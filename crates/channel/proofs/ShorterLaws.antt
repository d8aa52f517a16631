-- A store starts and is built in rooms of the sizes that its order needs; rooms in which it starts do for a shorter one.
-- Assumes nothing.
use Rattle.std.proofs.Common.{◌≡◌, ℕ, zero, suc, ◌<◌, ◌≤◌, true, List, length, sym, refl, ◌∙◌, arith, le-ltb}
use Rattle.table.proofs.Promise.{state_words}
use Rattle.wire.proofs.Promise.{max_size}
use Rattle.store.proofs.Promise.{both_zero, count_of, rooms_answer, order_accepted, length_accepted, order_shorter, row_mono, count_mono, length_answer, order-enough, build-enough as store-build-enough}
use Rattle.order.specs.declared.Order.{Order}
use Rattle.channel.specs.World.{World, out_of, unless}
use Rattle.channel.specs.Answers.{peer_words, channel_rooms_answer, channels_answer, all_rooms_answer, Suffice, method_answer}
use Rattle.channel.specs.Starting.{start_spec, build_number, build_spec, start_number}
use Rattle.channel.proofs.AcceptLaws.{channel_rooms_accepted, method_accepted}
use Rattle.format.specs.Format.{is_method}

channel_rooms-enough : (L s h w r : ℕ) → state_words ≤ s → peer_words (count_of L) ≤ h → peer_words (count_of L) ≤ w → max_size ≤ r
    → channel_rooms_answer L s h w r ≡ 0
unfolding channel_rooms_answer
channel_rooms-enough L s h w r a b c d =
    rw (le-ltb s state_words a, le-ltb h (peer_words (count_of L)) b, le-ltb w (peer_words (count_of L)) c, le-ltb r max_size d)

channel_rooms_shorter : (K L : ℕ) → K ≤ L → (s h w r : ℕ) → channel_rooms_answer L s h w r ≡ 0 → channel_rooms_answer K s h w r ≡ 0
channel_rooms_shorter K L l s h w r e =
    let p = channel_rooms_accepted L s h w r e in
    let q = row_mono (count_of K) (count_of L) (count_mono K L l) in
    channel_rooms-enough K s h w r p.0 (omega arith) (omega arith) p.3

-- Neither 12 nor 11 where the rooms are large enough.
pub rooms_suffice : (L : ℕ) (w : World) → length_answer L ≡ 0 → Suffice L w → all_rooms_answer L w ≡ 0
rooms_suffice L w z p =
    rw (
      order-enough L w.rooms z p.chunk-rooms,
      channel_rooms-enough L (length w.channels.state) (length w.channels.has) (length w.channels.wants) (length w.channels.reply)
          p.state p.has p.wants p.reply,
    )

-- The number of a start and of a building, in rooms of these lengths.
number : (n : ℕ) (w new : World) → (unless n w (out_of 0 0 new)).answer ≡ n
number zero w new = refl
number (suc n) w new = refl

start-number : (w : World) (o : Order) → (start_spec w o).answer ≡ start_number w o
unfolding start_spec
start-number w o = number (start_number w o) w _

build-number : (w : World) (o : Order) (s : List ℕ) → (build_spec w o s).answer ≡ build_number w o s
unfolding build_spec
build-number w o s = number (build_number w o s) w _

-- A method that a paper gives is not refused.
method_right : (k : ℕ) → is_method k ≡ true → method_answer k ≡ 0
unfolding method_answer
method_right k e = rw e

pub start_suffices : (w : World) (o : Order) → is_method o.method ≡ true → length_answer o.length ≡ 0 → Suffice o.length w → (start_spec w o).answer ≡ 0
start_suffices w o m z p = start-number w o ∙ rw (method_right o.method m) (rooms_suffice o.length w z p)

pub build_suffices : (w : World) (o : Order) (s : List ℕ) → is_method o.method ≡ true → length_answer o.length ≡ 0 → length s ≡ o.length → Suffice o.length w
    → (build_spec w o s).answer ≡ 0
build_suffices w o s m z e p =
    let L = o.length in
    build-number w o s ∙ rw (
      method_right o.method m,
      store-build-enough L w.rooms (length s) z e p.chunk-rooms,
      channel_rooms-enough L (length w.channels.state) (length w.channels.has) (length w.channels.wants) (length w.channels.reply)
          p.state p.has p.wants p.reply,
    )

-- A start that is not refused has an order of some length, under a method that a paper gives.
started : (w : World) (o : Order) → (start_spec w o).answer ≡ 0
    → (method_answer o.method ≡ 0) × (rooms_answer o.length w.rooms ≡ 0) × (channels_answer o.length w.channels ≡ 0)
started w o e =
    let m = both_zero (method_answer o.method) (all_rooms_answer o.length w) (sym (start-number w o) ∙ e) in
    let p = both_zero (rooms_answer o.length w.rooms) (channels_answer o.length w.channels) m.1 in
    (m.0, p.0, p.1)

pub start_some : (w : World) (o : Order) → (start_spec w o).answer ≡ 0 → 0 < o.length
start_some w o e =
    (length_accepted o.length (order_accepted o.length (length w.rooms.bytes) (length w.rooms.map) (length w.rooms.hashes) (length w.rooms.trusted) (started w o e).1).0).0

pub start_method : (w : World) (o : Order) → (start_spec w o).answer ≡ 0 → is_method o.method ≡ true
start_method w o e = method_accepted o.method (started w o e).0

pub build_method : (w : World) (o : Order) (s : List ℕ) → (build_spec w o s).answer ≡ 0 → is_method o.method ≡ true
build_method w o s e = method_accepted o.method (both_zero (method_answer o.method) _ (sym (build-number w o s) ∙ e)).0

pub start_shorter : (w : World) (o p : Order) → is_method o.method ≡ true → 0 < o.length → o.length ≤ p.length → (start_spec w p).answer ≡ 0 → (start_spec w o).answer ≡ 0
start_shorter w o p m some l e =
    let q = started w p e in
    start-number w o ∙ rw (
      method_right o.method m,
      order_shorter o.length p.length l (length w.rooms.bytes) (length w.rooms.map) (length w.rooms.hashes) (length w.rooms.trusted) some q.1,
      channel_rooms_shorter o.length p.length l (length w.channels.state) (length w.channels.has) (length w.channels.wants) (length w.channels.reply) q.2,
    )
