-- Lists of calls on a running store (00, demand 3; 01, "Demand 3's words"). Assumes nothing.
use Rattle.std.specs.Prelude.{ℕ, ◌≤◌, ◌≡◌, Bool, true, false, List, [], ◌∷◌, eqb, length}
use Rattle.std.proofs.Math.Option.{Option, none, some}
use Rattle.base.specs.Pick.{pick}
use Rattle.order.specs.declared.Order.{Order}
use Rattle.wire.proofs.Promise.{max_size}
use Rattle.wire.proofs.Promise.{Layout}
use Rattle.wire.proofs.Promise.{Fault, HandshakeAlone, Messages, MessagesAndData}
use Rattle.writer.proofs.Promise.{within}
use Rattle.channel.specs.World.{World, channels_of, Out, out_of}
use Rattle.channel.specs.Opening.{open_spec}
use Rattle.channel.specs.Starting.{order_of, start_spec, build_spec}
use Rattle.channel.specs.Take.{layout_in, take_spec}
use Rattle.channel.specs.Write.{write_spec}
use Rattle.channel.specs.Ask.{ask_spec}

-- A call with all its arguments but the store's state and rooms. "The reply room is no part of this: beginning and adding
-- write there alone": each call is lent one of any size and contents. "A start or build in between changes nothing if
-- refused", by `unless` in start_spec and build_spec, "else a new list follows".
pub data Call : Type 0 where
  opening : (reply : List ℕ) (id : ℕ) → Call
  taking : (reply : List ℕ) (clock id : ℕ) (datagram : List ℕ) → Call
  writing : (reply : List ℕ) (id chunk clock : ℕ) → Call
  asking : Call

-- The store, with this reply room.
abbrev pub lend : World → List ℕ → World
lend w reply =
    record { rooms = w.rooms; channels = channels_of w.channels.state w.channels.has w.channels.wants reply }

-- What a call gives back and leaves. Asking has no reply and changes nothing.
abbrev pub out : World → Call → Out World
out w (opening reply id) = open_spec (lend w reply) id
out w (taking reply clock id s) = take_spec (lend w reply) clock id s
out w (writing reply id c clock) = write_spec (lend w reply) id c clock
out w asking = out_of (ask_spec w.channels.state w.rooms.map).answer 0 w

-- The store after it.
abbrev pub step : World → Call → World
step w k = (out w k).after

-- A call that is lent a reply room of the least size at least; asking is lent none.
abbrev pub ReplyFits : Call → Type 0
ReplyFits (opening reply id) = max_size ≤ length reply
ReplyFits (taking reply clock id s) = max_size ≤ length reply
ReplyFits (writing reply id c clock) = max_size ≤ length reply
ReplyFits asking = Unit {0}

-- After a list of calls: "Each call gets that store's own state and rooms just as the last one left them".
abbrev pub run : World → List Call → World
run w [] = w
run w (k ∷ ks) = run (step w k) ks

-- A fresh or built store: what a start or a building that answered 0 leaves, whatever was there before.
pub data FreshOrBuilt : World → Type 0 where
  fresh : (w : World) (root : List ℕ) (L method : ℕ) → (start_spec w (order_of root L method)).answer ≡ 0
      → FreshOrBuilt (start_spec w (order_of root L method)).after
  built : (w : World) (o : Order) (s : List ℕ) → (build_spec w o s).answer ≡ 0 → FreshOrBuilt (build_spec w o s).after

-- ---- what taken datagrams brought

-- The bytes for chunk x in a datagram's DATA.
abbrev pub data_for : ℕ → List ℕ → Layout → Option (List ℕ)
data_for x s (Fault n) = none
data_for x s (HandshakeAlone a o) = none
data_for x s (Messages k) = none
data_for x s (MessagesAndData c t b n k) = pick (eqb x c) (some (within s b n)) none

-- "A datagram taken with 0 brings its DATA's chunk": the bytes that a call brings for chunk x.
abbrev pub brings : World → Call → ℕ → Option (List ℕ)
brings w (opening reply id) x = none
brings w (taking reply clock id s) x =
    pick (eqb (out w (taking reply clock id s)).answer 0) (data_for x s (layout_in w.channels.state s).layout) none
brings w (writing reply id c clock) x = none
brings w asking x = none

-- The bytes that one call brought, or else those that later ones did.
abbrev pub or_next : Option (List ℕ) → Option (List ℕ) → Option (List ℕ)
or_next none next = next
or_next (some d) next = some d

-- The bytes for chunk x in the DATA of the first datagram of a list that brought it.
abbrev pub first_brought : World → List Call → ℕ → Option (List ℕ)
first_brought w [] x = none
first_brought w (k ∷ ks) x = or_next (brings w k x) (first_brought (step w k) ks x)

-- Whether there are any, and what they are.
abbrev pub was_brought : Option (List ℕ) → Bool
was_brought none = false
was_brought (some d) = true

abbrev pub brought_bytes : Option (List ℕ) → List ℕ
brought_bytes none = []
brought_bytes (some d) = d
