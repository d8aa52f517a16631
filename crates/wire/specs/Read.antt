-- One message at a place of a datagram: the table of 01, "Datagrams" (RFC 7574, 8). Assumes nothing.
use Rattle.std.specs.Prelude.{ℕ, ◌+◌, ◌-◌, List, Bool, true, false, not, length, get_or, drop, ltb, eqb}
use Rattle.base.specs.Pick.{pick}
use Rattle.tree.proofs.Promise.{covers}
use Rattle.wire.specs.Bytes.{be32, be64}
use Rattle.format.specs.declared.Format.{Format}
use Rattle.wire.specs.Place.{named_size, timed_size, integrity_size, first_of, last_of, is_empty, is_special}
use Rattle.wire.specs.Options.{root_place, options_size, is_fixed}
use Rattle.wire.specs.declared.message.Options.{Options}
use Rattle.wire.specs.declared.message.Options.TheVariants.{Fixed, EndOnly, Other}
use Rattle.wire.specs.declared.message.Message.{Message}
use Rattle.wire.specs.declared.message.Message.TheVariants.{Handshake, Data, Ack, Have, Integrity, Request, Cancel, Choke, Unchoke, Empty}
use Rattle.wire.specs.declared.message.Cursor.{Cursor}
use Rattle.wire.specs.declared.message.Step.{Step}
use Rattle.wire.specs.declared.message.Step.TheVariants.{Read, End, Refused}

-- The number of 01 that a step stands for: 2 for what is refused, 0 for a message and for the end.
abbrev pub step_number : Step → ℕ
step_number (Read m next) = 0
step_number End = 0
step_number Refused = 2

abbrev pub cursor : ℕ → Cursor
cursor at = record { at = at }

-- In what follows, t is what is left of the datagram from the message's type on, and stands at `at`.

-- The message m, which takes n bytes of t at least and ends at `next`; refused where it is cut short or `bad`.
abbrev pub whole : (t : List ℕ) (n : ℕ) (bad : Bool) → Message → (next : ℕ) → Step
whole t n bad m next = pick (ltb (length t) n) Refused (pick bad Refused (Read m (cursor next)))

-- A HANDSHAKE's options, t: End alone, the fixed ones around a root, or others.
unfoldable pub kind_of : Format → ℕ → List ℕ → Options
kind_of F at t = pick (eqb (options_size t) 1) EndOnly (pick (is_fixed F t) (Fixed (at + root_place)) Other)

-- 0, HANDSHAKE (RFC 7574, 8.4): source channel, options of sound layout.
unfoldable pub handshake_at : Format → ℕ → List ℕ → Step
handshake_at F at t =
    whole t 5 (eqb (options_size (drop 5 t)) 0)
    (Handshake (be32 t 1) (kind_of F (at + 5) (drop 5 t))) (at + 5 + options_size (drop 5 t))

-- 1, DATA (8.6): one chunk's place, timestamp, chunk to the datagram's end. "Either in DATA, ACK or INTEGRITY is 2" (02, No. 1).
unfoldable pub data_at : Format → ℕ → List ℕ → Step
data_at F at t =
    whole t (timed_size F) (pick (is_special F t) true (not (eqb (first_of F t) (last_of F t))))
    (Data (first_of F t) (last_of F t) (be64 t (named_size F)) (at + timed_size F) (length t - timed_size F)) (at + length t)

-- 2, ACK (8.7): chunks, delay.
unfoldable pub ack_at : Format → ℕ → List ℕ → Step
ack_at F at t =
    whole t (timed_size F) (pick (is_special F t) true (ltb (last_of F t) (first_of F t)))
    (Ack (first_of F t) (last_of F t) (be64 t (named_size F))) (at + timed_size F)

-- Whether the message t names the chunks of a node: then the node's number is first plus last.
unfoldable pub names_node : Format → List ℕ → Bool
names_node F t = pick (is_special F t) false (covers (first_of F t + last_of F t) (first_of F t) (last_of F t))

-- 4, INTEGRITY (8.8): the chunks of a node, hash.
unfoldable pub integrity_at : Format → ℕ → List ℕ → Step
integrity_at F at t =
    whole t (integrity_size F) (not (names_node F t))
    (Integrity (first_of F t) (last_of F t) (at + named_size F)) (at + integrity_size F)

-- The types of HAVE, REQUEST and CANCEL, and the message of each.
unfoldable pub is_ranged : ℕ → Bool
is_ranged k = pick (eqb k 3) true (pick (eqb k 8) true (eqb k 9))

abbrev pub named : ℕ → ℕ → ℕ → Message
named k f l = pick (eqb k 3) (Have f l) (pick (eqb k 8) (Request f l) (Cancel f l))

-- 3, 8 and 9, HAVE, REQUEST and CANCEL (8.5, 8.10, 8.11): chunks, or none ("empty and does nothing", 02, No. 1).
unfoldable pub ranged_at : Format → ℕ → ℕ → List ℕ → Step
ranged_at F k at t =
    pick (ltb (length t) (named_size F)) Refused
    (pick (is_empty F t) (Read (Empty k) (cursor (at + named_size F)))
    (pick (ltb (last_of F t) (first_of F t)) Refused
    (Read (named k (first_of F t) (last_of F t)) (cursor (at + named_size F)))))

-- The message of type k: a row of the table, 10 and 11 being CHOKE and UNCHOKE (8.12), or a refused type.
unfoldable pub typed : Format → ℕ → ℕ → List ℕ → Step
typed F k at t =
    pick (eqb k 0) (handshake_at F at t)
    (pick (eqb k 1) (data_at F at t)
    (pick (eqb k 2) (ack_at F at t)
    (pick (eqb k 3) (ranged_at F 3 at t)
    (pick (eqb k 4) (integrity_at F at t)
    (pick (eqb k 8) (ranged_at F 8 at t)
    (pick (eqb k 9) (ranged_at F 9 at t)
    (pick (eqb k 10) (Read Choke (cursor (at + 1)))
    (pick (eqb k 11) (Read Unchoke (cursor (at + 1)))
    Refused))))))))

-- What stands at the front of t: the end, a refusal, or a message and where it ends.
unfoldable pub step_of : Format → ℕ → List ℕ → Step
step_of F at t = pick (ltb (length t) 1) End (typed F (get_or t 0 0) at t)

-- What stands at a place of a datagram.
abbrev pub step_at : Format → List ℕ → ℕ → Step
step_at F s at = step_of F at (drop at s)
