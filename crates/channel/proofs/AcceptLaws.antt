-- What it says of the order and of the rooms that neither 12 nor 11 refuses a call. Assumes nothing.
use Rattle.std.proofs.Common.{◌≡◌, ℕ, ◌≤◌, Bool, true, false, ltb, length, sym, refl, arith, ltb-false}
use Rattle.base.specs.Pick.{pick}
use Rattle.table.proofs.Promise.{state_words}
use Rattle.wire.proofs.Promise.{max_size}
use Rattle.store.proofs.Promise.{passed, both_zero, count_of, length_answer, rooms_answer, order_answer, build_answer, order_accepted}
use Rattle.channel.specs.World.{World, order_length}
use Rattle.channel.specs.Answers.{peer_words, channel_rooms_answer, channels_answer, own_rooms_answer, method_answer}
use Rattle.channel.specs.Sizes.{sizes_of, sides_answer, all_answer, own_answer, built_answer}
use Rattle.channel.specs.declared.rooms.Sizes.{Sizes}
use Rattle.format.specs.Format.{is_method}

-- The rooms for what the peers have and want hold their rows, and the reply room a datagram.
pub channel_rooms_accepted : (L s h w r : ℕ) → channel_rooms_answer L s h w r ≡ 0
    → (state_words ≤ s) × (peer_words (count_of L) ≤ h) × (peer_words (count_of L) ≤ w) × (max_size ≤ r)
unfolding channel_rooms_answer
channel_rooms_accepted L s h w r e =
    let n = passed (ltb s state_words) 10 _ e in
    let p = passed (ltb h (peer_words (count_of L))) 10 _ n.1 in
    let q = passed (ltb w (peer_words (count_of L))) 10 _ p.1 in
    let t = passed (ltb r max_size) 10 0 q.1 in
    (ltb-false s state_words n.0, ltb-false h (peer_words (count_of L)) p.0, ltb-false w (peer_words (count_of L)) q.0, ltb-false r max_size t.0)

-- The sizes of the rooms refuse no call under the length that was read.
pub own_passed : (w : World) {m : ℕ} {s : Sizes} → m ≡ order_length w.channels.state → s ≡ sizes_of w → 0 ≡ own_answer m s
    → own_rooms_answer w ≡ 0
own_passed w e f z = sym (rw (e, f) at z)

-- A call that neither 12 nor 11 refuses: the length is within the limit, the state is in its room, the reply room holds a
-- datagram.
pub own_accepted : (w : World) → own_rooms_answer w ≡ 0
    → (length_answer (order_length w.channels.state) ≡ 0) × (state_words ≤ length w.channels.state) × (max_size ≤ length w.channels.reply)
own_accepted w e =
    let L = order_length w.channels.state in
    let p = both_zero (rooms_answer L w.rooms) (channels_answer L w.channels) (passed (ltb (length w.channels.state) state_words) 10 _ e).1 in
    let r = channel_rooms_accepted L (length w.channels.state) (length w.channels.has) (length w.channels.wants) (length w.channels.reply) p.1 in
    ((order_accepted L _ _ _ _ p.0).0, r.0, r.3)

-- The same by the sizes alone: the reply room holds a datagram,
pub own_reply : (L : ℕ) (s : Sizes) → 0 ≡ own_answer L s → max_size ≤ s.reply
own_reply L s z =
    let p = both_zero (order_answer L s.store.chunks s.store.map s.store.hashes s.store.trusted) (sides_answer L s) (passed (ltb s.state state_words) 10 _ (sym z)).1 in
    (channel_rooms_accepted L s.state s.has s.wants s.reply p.1).3

-- and under a new order, and for a building, the state has its room.
pub all_state : (L : ℕ) (s : Sizes) → 0 ≡ all_answer L s → state_words ≤ s.state
all_state L s z =
    let p = both_zero (order_answer L s.store.chunks s.store.map s.store.hashes s.store.trusted) (sides_answer L s) (sym z) in
    (channel_rooms_accepted L s.state s.has s.wants s.reply p.1).0

pub built_state : (L n : ℕ) (s : Sizes) → 0 ≡ built_answer L n s → state_words ≤ s.state
built_state L n s z =
    let p = both_zero (build_answer L n s.store.chunks s.store.map s.store.hashes s.store.trusted) (sides_answer L s) (sym z) in
    (channel_rooms_accepted L s.state s.has s.wants s.reply p.1).0

-- A method that is not refused.
pub method_accepted : (k : ℕ) → method_answer k ≡ 0 → is_method k ≡ true
unfolding method_answer
method_accepted k = by (is_method k)
  where
    by : (b : Bool) → ◌≡◌ {A = ℕ} (pick b 0 12) 0 → b ≡ true
    by true e = refl
    by false e = absurd (omega (arith, e))
