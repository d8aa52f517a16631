-- The numbers that each call can give. Assumes nothing.
use Rattle.std.proofs.Common.{◌≡◌, ℕ, zero, suc, Bool, true, false, not, eqb, ltb, leb, List, [], ◌∷◌, length, refl}
use Rattle.base.specs.Pick.{pick}
use Rattle.base.specs.Among.{among, OneOf}
use Rattle.base.proofs.OutLaws.{at_one, unless-one}
use Rattle.base.proofs.AmongLaws.{all_among, pick-one, earlier-one, one_of_more}
use Rattle.bits.proofs.Promise.{bit_at}
use Rattle.table.proofs.Promise.{state_words, messages_answer, handshake_answer, write_answer, open_numbered, messages_numbered, handshake_numbered, write_numbered}
use Rattle.wire.proofs.Promise.{be32, min_size, max_size, number_of, layout-one}
use Rattle.wire.specs.declared.message.Options.{Options}
use Rattle.wire.proofs.Promise.{Layout, Fault, HandshakeAlone, Messages, MessagesAndData}
use Rattle.effects.proofs.Promise.{any_past}
use Rattle.held.proofs.Promise.{ask_numbered}
use Rattle.store.proofs.Promise.{passed, both_zero, count_of, rooms_answer, build_answer, order_numbered, build_numbered, take_numbered}
use Rattle.order.specs.declared.Order.{Order}
use Rattle.channel.specs.World.{Channels, World, Out, order_root, order_length, chunk_count, table_rows, order_format}
use Rattle.channel.specs.Answers.{peer_words, channel_rooms_answer, channels_answer, all_rooms_answer, own_rooms_answer, method_answer}
use Rattle.channel.specs.Opening.{opened_row, occupied, open_number, open_spec}
use Rattle.channel.specs.Starting.{start_spec, build_number, build_spec, start_number}
use Rattle.channel.specs.Take.{ours, handshake_taken, messages_number, messages_taken, store_out, data_by, data_taken, by_layout, take_spec, layout_in, messages_in}
use Rattle.channel.specs.Write.{held_answer, write_number, write_spec}
use Rattle.channel.specs.Ask.{Asked, asked_of, ask_spec}
use Rattle.wire.specs.declared.message.Message.{Message}
use Rattle.channel.specs.Adding.{adding_spec}
use Rattle.format.specs.Format.{format_of, is_method}
use Rattle.writer.proofs.Promise.{add_spec, add_numbered}

-- ---- 12 and 11

abbrev room_numbers : List ℕ
room_numbers = 0 ∷ 11 ∷ 12 ∷ []

channel_rooms-one : (L s h w r : ℕ) → OneOf room_numbers (channel_rooms_answer L s h w r)
unfolding channel_rooms_answer among
channel_rooms-one L s h w r =
    let words = peer_words (count_of L) in
    pick-one room_numbers (ltb s state_words) 11 _ refl
    (pick-one room_numbers (ltb h words) 11 _ refl
    (pick-one room_numbers (ltb w words) 11 _ refl
    (pick-one room_numbers (ltb r max_size) 11 0 refl refl)))

rooms-one : (L : ℕ) (w : World) → OneOf room_numbers (all_rooms_answer L w)
rooms-one L w =
    earlier-one room_numbers (rooms_answer L w.rooms) (channels_answer L w.channels)
    (order_numbered L (length w.rooms.bytes) (length w.rooms.map) (length w.rooms.hashes) (length w.rooms.trusted))
    (channel_rooms-one L (length w.channels.state) (length w.channels.has) (length w.channels.wants) (length w.channels.reply))

pub own_one : (w : World) → OneOf (0 ∷ 11 ∷ 12 ∷ []) (own_rooms_answer w)
unfolding among
own_one w = pick-one room_numbers (ltb (length w.channels.state) state_words) 11 _ refl (rooms-one (order_length w.channels.state) w)

method_one : (k : ℕ) → OneOf room_numbers (method_answer k)
unfolding method_answer among
method_one k = pick-one room_numbers (is_method k) 0 12 refl refl

pub start-one : (w : World) (o : Order) → OneOf (0 ∷ 11 ∷ 12 ∷ []) (start_spec w o).answer
unfolding start_spec among
start-one w o =
    unless-one room_numbers (start_number w o) w _
    (earlier-one room_numbers (method_answer o.method) (all_rooms_answer o.length w) (method_one o.method) (rooms-one o.length w)) refl

pub build-one : (w : World) (o : Order) (s : List ℕ) → OneOf (0 ∷ 11 ∷ 12 ∷ []) (build_spec w o s).answer
unfolding build_spec among
build-one w o s =
    let L = o.length in
    let b = length w.rooms.bytes in let m = length w.rooms.map in
    let h = length w.rooms.hashes in let t = length w.rooms.trusted in
    unless-one room_numbers (build_number w o s) w _
    (earlier-one room_numbers (method_answer o.method) _ (method_one o.method)
    (earlier-one room_numbers (build_answer L (length s) b m h t) (channels_answer L w.channels) (build_numbered L (length s) b m h t)
    (channel_rooms-one L (length w.channels.state) (length w.channels.has) (length w.channels.wants) (length w.channels.reply))))
    refl

pub adding-one : (method : ℕ) (room : List ℕ) (len : ℕ) (m : Message) (source : List ℕ)
    → OneOf (0 ∷ 1 ∷ 2 ∷ 3 ∷ 11 ∷ 12 ∷ []) (adding_spec method room len m source).answer
unfolding adding_spec method_answer among all_among
adding-one method room len m source =
    let ms : List ℕ = 0 ∷ 1 ∷ 2 ∷ 3 ∷ 11 ∷ 12 ∷ [] in
    unless-one ms (method_answer method) room _ (pick-one ms (is_method method) 0 12 refl refl)
    (one_of_more (0 ∷ 1 ∷ 2 ∷ 3 ∷ 11 ∷ []) ms (add_spec (format_of method) room len m source).answer refl (add_numbered (format_of method) room len m source))

either_asked : (b : Bool) (x y : Asked) → OneOf room_numbers x.answer → OneOf room_numbers y.answer → OneOf room_numbers (pick b x y).answer
either_asked true x y p q = p
either_asked false x y p q = q

pub ask-one : (st map : List ℕ) → OneOf (0 ∷ 11 ∷ 12 ∷ []) (ask_spec st map).answer
unfolding ask_spec among
ask-one st map = either_asked (ltb (length st) state_words) (asked_of 11 0 false) _ refl (ask_numbered (order_length st) map)

-- ---- messages, and a HANDSHAKE

pub handshake-one : (ch : Channels) (id : ℕ) (s : List ℕ) (source : ℕ) (o : Options)
    → OneOf (0 ∷ 3 ∷ 4 ∷ 5 ∷ 6 ∷ 14 ∷ []) (handshake_taken ch id s source o).answer
unfolding handshake_taken occupied among
handshake-one ch id s source o =
    let n = handshake_answer (table_rows ch.state) (be32 s 0) source (ours (order_root ch.state) s o) id in
    unless-one ms n ch _
    (handshake_numbered (table_rows ch.state) (be32 s 0) source (ours (order_root ch.state) s o) id)
    (done (eqb (be32 s 0) 0) (occupied ch (opened_row id source)) _ refl refl)
  where
    ms : List ℕ
    ms = 0 ∷ 3 ∷ 4 ∷ 5 ∷ 6 ∷ 14 ∷ []

    done : (b : Bool) (x y : Out Channels) → x.answer ≡ 0 → y.answer ≡ 0 → OneOf ms (pick b x y).answer
    done true x y p q = rw p refl
    done false x y p q = rw q refl

pub messages-number-one : (st s : List ℕ) → OneOf (0 ∷ 3 ∷ 5 ∷ 7 ∷ []) (messages_number st s)
unfolding messages_number among all_among
messages-number-one st s =
    let ms : List ℕ = 0 ∷ 3 ∷ 5 ∷ 7 ∷ [] in
    let n = messages_answer (table_rows st) (be32 s 0) (eqb (length s) min_size) in
    let past = any_past (order_format st) (chunk_count st) (messages_in st s) in
    earlier-one ms n (pick past 7 0)
    (one_of_more (0 ∷ 3 ∷ 5 ∷ []) ms n refl (messages_numbered (table_rows st) (be32 s 0) (eqb (length s) min_size)))
    (pick-one ms past 7 0 refl refl)

pub messages-one : (ch : Channels) (s : List ℕ) → OneOf (0 ∷ 3 ∷ 5 ∷ 7 ∷ []) (messages_taken ch s).answer
unfolding messages_taken among
messages-one ch s = unless-one (0 ∷ 3 ∷ 5 ∷ 7 ∷ []) (messages_number ch.state s) ch _ (messages-number-one ch.state s) refl

-- ---- in rooms that suffice: neither 11 nor 12

module _ (w : World) (enough : own_rooms_answer w ≡ 0) where
  pub open-enough : (id : ℕ) → OneOf (0 ∷ 6 ∷ 14 ∷ []) (open_spec w id).answer
  unfolding open_spec occupied among
  open-enough id =
      unless-one (0 ∷ 6 ∷ 14 ∷ []) (open_number w id) w _ (rw enough (open_numbered (table_rows w.channels.state) id)) refl

  pub write-enough : (id c clock : ℕ) → OneOf (0 ∷ 3 ∷ 7 ∷ 13 ∷ []) (write_spec w id c clock).answer
  unfolding write_spec held_answer among all_among
  write-enough id c clock =
      let ms : List ℕ = 0 ∷ 3 ∷ 7 ∷ 13 ∷ [] in
      let N = chunk_count w.channels.state in
      let r = write_answer (table_rows w.channels.state) id in
      let h = held_answer N c w.rooms.map in
      unless-one ms (write_number w id c) w _
      (rw enough (earlier-one ms r h (one_of_more (0 ∷ 3 ∷ []) ms r refl (write_numbered (table_rows w.channels.state) id))
      (pick-one ms (leb N c) 7 _ refl (pick-one ms (not (bit_at w.rooms.map c)) 13 0 refl refl))))
      refl

  abbrev take_numbers : List ℕ
  take_numbers = 0 ∷ 1 ∷ 2 ∷ 3 ∷ 4 ∷ 5 ∷ 6 ∷ 7 ∷ 8 ∷ 9 ∷ 10 ∷ 14 ∷ []

  data-one : (clock : ℕ) (s entries : List ℕ) (c timestamp start n : ℕ) → OneOf take_numbers (data_taken w clock s entries c timestamp start n).answer
  unfolding data_taken data_by among all_among
  data-one clock s entries c timestamp start n =
      let out = store_out w s entries c start n in
      let p = both_zero (rooms_answer (order_length w.channels.state) w.rooms) (channels_answer (order_length w.channels.state) w.channels) (passed (ltb (length w.channels.state) state_words) 10 _ enough).1 in
      unless-one take_numbers (messages_number w.channels.state s) w _
      (one_of_more (0 ∷ 3 ∷ 5 ∷ 7 ∷ []) take_numbers (messages_number w.channels.state s) refl (messages-number-one w.channels.state s))
      (at_one out.node take_numbers out.answer w _
      (one_of_more (0 ∷ 7 ∷ 8 ∷ 9 ∷ 10 ∷ []) take_numbers out.answer refl (take_numbered w.rooms (order_root w.channels.state) (order_length w.channels.state) c _ _ p.0))
      refl)

  by-layout-one : (clock id : ℕ) (s : List ℕ) (l : Layout) → OneOf (0 ∷ 1 ∷ 2 ∷ 3 ∷ []) (number_of l) → OneOf take_numbers (by_layout w clock id s l).answer
  unfolding by_layout among all_among
  by-layout-one clock id s (Fault n) h = one_of_more (0 ∷ 1 ∷ 2 ∷ 3 ∷ []) take_numbers n refl h
  by-layout-one clock id s (HandshakeAlone source o) h =
      one_of_more (0 ∷ 3 ∷ 4 ∷ 5 ∷ 6 ∷ 14 ∷ []) take_numbers (handshake_taken w.channels id s source o).answer refl (handshake-one w.channels id s source o)
  by-layout-one clock id s (Messages k) h =
      one_of_more (0 ∷ 3 ∷ 5 ∷ 7 ∷ []) take_numbers (messages_taken w.channels s).answer refl (messages-one w.channels s)
  by-layout-one clock id s (MessagesAndData c timestamp start n k) h = data-one clock s (layout_in w.channels.state s).entries c timestamp start n

  pub take-enough : (clock id : ℕ) (s : List ℕ) → OneOf (0 ∷ 1 ∷ 2 ∷ 3 ∷ 4 ∷ 5 ∷ 6 ∷ 7 ∷ 8 ∷ 9 ∷ 10 ∷ 14 ∷ []) (take_spec w clock id s).answer
  unfolding take_spec
  take-enough clock id s = rw enough (by-layout-one clock id s (layout_in w.channels.state s).layout (layout-one (order_format w.channels.state) s))

-- ---- in any rooms

-- What a call gives that 12 or 11 refuses.
refused-one : (ms : List ℕ) → all_among room_numbers ms ≡ true → (w : World) (n : ℕ) → own_rooms_answer w ≡ n → OneOf ms n
refused-one ms a w n e = rw e at (one_of_more room_numbers ms (own_rooms_answer w) a (own_one w))

open_by : (w : World) (id n : ℕ) → own_rooms_answer w ≡ n → OneOf (0 ∷ 6 ∷ 11 ∷ 12 ∷ 14 ∷ []) (open_spec w id).answer
unfolding open_spec among all_among
open_by w id zero e = one_of_more (0 ∷ 6 ∷ 14 ∷ []) (0 ∷ 6 ∷ 11 ∷ 12 ∷ 14 ∷ []) (open_spec w id).answer refl (open-enough w e id)
open_by w id (suc n) e = rw e (refused-one (0 ∷ 6 ∷ 11 ∷ 12 ∷ 14 ∷ []) refl w (suc n) e)

pub open-one : (w : World) (id : ℕ) → OneOf (0 ∷ 6 ∷ 11 ∷ 12 ∷ 14 ∷ []) (open_spec w id).answer
open-one w id = open_by w id (own_rooms_answer w) refl

write_by : (w : World) (id c clock n : ℕ) → own_rooms_answer w ≡ n → OneOf (0 ∷ 3 ∷ 7 ∷ 11 ∷ 12 ∷ 13 ∷ []) (write_spec w id c clock).answer
unfolding write_spec among all_among
write_by w id c clock zero e = one_of_more (0 ∷ 3 ∷ 7 ∷ 13 ∷ []) (0 ∷ 3 ∷ 7 ∷ 11 ∷ 12 ∷ 13 ∷ []) (write_spec w id c clock).answer refl (write-enough w e id c clock)
write_by w id c clock (suc n) e = rw e (refused-one (0 ∷ 3 ∷ 7 ∷ 11 ∷ 12 ∷ 13 ∷ []) refl w (suc n) e)

pub write-one : (w : World) (id c clock : ℕ) → OneOf (0 ∷ 3 ∷ 7 ∷ 11 ∷ 12 ∷ 13 ∷ []) (write_spec w id c clock).answer
write-one w id c clock = write_by w id c clock (own_rooms_answer w) refl

abbrev all_take_numbers : List ℕ
all_take_numbers = 0 ∷ 1 ∷ 2 ∷ 3 ∷ 4 ∷ 5 ∷ 6 ∷ 7 ∷ 8 ∷ 9 ∷ 10 ∷ 11 ∷ 12 ∷ 14 ∷ []

take_by : (w : World) (clock id : ℕ) (s : List ℕ) (n : ℕ) → own_rooms_answer w ≡ n → OneOf all_take_numbers (take_spec w clock id s).answer
unfolding take_spec among all_among
take_by w clock id s zero e =
    one_of_more (0 ∷ 1 ∷ 2 ∷ 3 ∷ 4 ∷ 5 ∷ 6 ∷ 7 ∷ 8 ∷ 9 ∷ 10 ∷ 14 ∷ []) all_take_numbers (take_spec w clock id s).answer refl (take-enough w e clock id s)
take_by w clock id s (suc n) e = rw e (refused-one all_take_numbers refl w (suc n) e)

pub take-one : (w : World) (clock id : ℕ) (s : List ℕ)
    → OneOf (0 ∷ 1 ∷ 2 ∷ 3 ∷ 4 ∷ 5 ∷ 6 ∷ 7 ∷ 8 ∷ 9 ∷ 10 ∷ 11 ∷ 12 ∷ 14 ∷ []) (take_spec w clock id s).answer
take-one w clock id s = take_by w clock id s (own_rooms_answer w) refl
