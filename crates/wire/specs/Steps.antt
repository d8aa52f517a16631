-- Nothing of the papers: what the code computes on its way, and one turn of its loops. Assumes nothing.
use Rattle.std.specs.Prelude.{ℕ, zero, suc, ◌+◌, ◌-◌, ◌*◌, ◌/◌, ◌%◌, ◌≤◌, ◌≡◌, List, [], ◌∷◌, Bool, true, false, length, get_or, take, ltb, eqb}
use Rattle.std.specs.Prelude.{Option, Some, None}
use Rattle.base.specs.Pick.{pick}
use Rattle.wire.specs.Bytes.{be64, placed}
use Rattle.wire.specs.Limits.{min_size, max_size}
use Rattle.wire.specs.Place.{named_size, timed_size, first_of, last_of, is_empty, is_special, reach}
use Rattle.format.specs.declared.Format.{Format}
use Rattle.wire.specs.Read.{step_number, named, step_at}
use Rattle.wire.specs.Layout.{Layout, Fault, Messages, MessagesAndData, layout_said, Checked, checked_of, number_of, seen, handshake_layout, layout_from, layout_of}
use Rattle.wire.specs.declared.range.Range.{Range}
use Rattle.wire.specs.declared.message.Message.{Message}
use Rattle.wire.specs.declared.message.Message.TheVariants.{Handshake, Data, Ack, Have, Integrity, Request, Cancel, Choke, Unchoke, Empty}
use Rattle.wire.specs.declared.message.Cursor.{Cursor}
use Rattle.wire.specs.declared.message.Step.{Step}
use Rattle.wire.specs.declared.message.Step.TheVariants.{Read, End, Refused}
use Rattle.wire.specs.declared.survey.Survey.{Survey}
use Rattle.wire.specs.declared.pass.Pass as src
use Rattle.wire.specs.declared.pass.Reached.{Reached}
use Rattle.wire.specs.declared.pass.Front.{Front}
use Rattle.std.specs.Prelude.{Result, Ok, Err}
use Rattle.std.specs.declared.ops.ControlFlow.{ControlFlow}
use Rattle.std.specs.declared.ops.ControlFlow.TheVariants.{Continue, Break}
use Rattle.base.specs.declared.Refusal.{Refusal}
use Rattle.base.specs.Refusal.{number}

-- A size as an option: 0 stands for none.
abbrev pub some_size : ℕ → Option ℕ
some_size zero = None
some_size (suc n) = Some (suc n)

-- ---- reading a message

-- A message with the cursor behind it, as a step; none is refused.
abbrev pub step_said : Option (Message × Cursor) → Step
step_said (Some p) = Read p.0 p.1
step_said None = Refused

-- The chunks that the message t names.
abbrev pub range_of : Format → List ℕ → Range
range_of F t = record { first = first_of F t; last = last_of F t }

-- ---- plain messages, told by their size

-- Types of one byte, CHOKE and UNCHOKE.
unfoldable pub is_single : ℕ → Bool
is_single k = pick (eqb k 10) true (eqb k 11)

-- The size of HAVE, REQUEST or CANCEL, if the message t has as many bytes and its chunks are in order, or none; else 0.
unfoldable pub ranged_size : Format → List ℕ → ℕ
ranged_size F t =
    pick (ltb (length t) (named_size F)) 0
    (pick (is_empty F t) (named_size F)
    (pick (ltb (last_of F t) (first_of F t)) 0 (named_size F)))

-- The size of ACK, if the message t has as many bytes and its chunks are in order, and neither none nor all; else 0.
unfoldable pub ack_size : Format → List ℕ → ℕ
ack_size F t =
    pick (ltb (length t) (timed_size F)) 0
    (pick (is_special F t) 0
    (pick (ltb (last_of F t) (first_of F t)) 0 (timed_size F)))

-- The size of a plain message: ACK, HAVE, REQUEST, CANCEL, CHOKE or UNCHOKE; 0 for any other step.
abbrev pub plain_size : Format → Step → ℕ
plain_size F (Read (Handshake a o) next) = 0
plain_size F (Read (Data f l x b n) next) = 0
plain_size F (Read (Ack f l d) next) = timed_size F
plain_size F (Read (Have f l) next) = named_size F
plain_size F (Read (Integrity f l h) next) = 0
plain_size F (Read (Request f l) next) = named_size F
plain_size F (Read (Cancel f l) next) = named_size F
plain_size F (Read Choke next) = 1
plain_size F (Read Unchoke next) = 1
plain_size F (Read (Empty k) next) = named_size F
plain_size F End = 0
plain_size F Refused = 0

-- The plain message t, by its type.
unfoldable pub plain_message : Format → List ℕ → Message
plain_message F t =
    pick (ltb 9 (get_or t 0 0)) (pick (eqb (get_or t 0 0) 10) Choke Unchoke)
    (pick (is_empty F t) (Empty (get_or t 0 0))
    (pick (eqb (get_or t 0 0) 2) (Ack (first_of F t) (last_of F t) (be64 t (named_size F)))
    (named (get_or t 0 0) (first_of F t) (last_of F t))))

-- Whether a step is an INTEGRITY message.
abbrev pub is_node : Step → Bool
is_node (Read (Handshake a o) next) = false
is_node (Read (Data f l x b n) next) = false
is_node (Read (Ack f l d) next) = false
is_node (Read (Have f l) next) = false
is_node (Read (Integrity f l h) next) = true
is_node (Read (Request f l) next) = false
is_node (Read (Cancel f l) next) = false
is_node (Read Choke next) = false
is_node (Read Unchoke next) = false
is_node (Read (Empty k) next) = false
is_node End = false
is_node Refused = false

-- ---- what messages name and do

abbrev pub survey_of : (highest : ℕ) (effective : Bool) → Survey
survey_of highest effective = record { highest = highest; effective = effective }

-- Before the first message.
abbrev pub no_survey : Survey
no_survey = survey_of 0 false

abbrev pub higher : ℕ → ℕ → ℕ
higher a b = pick (ltb a b) b a

-- A message more that may be past the pack by chunk l, without an effect; a plain one of so many bytes.
unfoldable pub naming : (l : ℕ) → Survey → Survey
naming l v = survey_of (higher v.highest l) v.effective

unfoldable pub acting : Format → (size : ℕ) (t : List ℕ) → Survey → Survey
acting F size t v =
    survey_of
    (pick (ltb size (named_size F)) v.highest
    (pick (is_empty F t) v.highest
    (higher v.highest (reach F (first_of F t) (last_of F t)))))
    true

-- Any message more.
abbrev pub surveyed : Format → Message → Survey → Survey
surveyed F (Handshake a o) v = v
surveyed F (Data f l x b n) v = naming l v
surveyed F (Ack f l d) v = survey_of (higher v.highest (reach F f l)) true
surveyed F (Have f l) v = survey_of (higher v.highest (reach F f l)) true
surveyed F (Integrity f l h) v = naming l v
surveyed F (Request f l) v = survey_of (higher v.highest (reach F f l)) true
surveyed F (Cancel f l) v = survey_of (higher v.highest (reach F f l)) true
surveyed F Choke v = survey_of v.highest true
surveyed F Unchoke v = survey_of v.highest true
surveyed F (Empty k) v = survey_of v.highest true

abbrev pub survey_step : Format → Step → Survey → (ℕ → Survey → Survey) → Survey
survey_step F (Read m next) v rest = rest next.at (surveyed F m v)
survey_step F End v rest = v
survey_step F Refused v rest = v

-- The messages from `at` on, of which there are at most n.
unfoldable pub survey_from : Format → ℕ → List ℕ → ℕ → Survey → Survey
survey_from F zero s at v = v
survey_from F (suc n) s at v = survey_step F (step_at F s at) v (λ next w. survey_from F n s next w)

-- The messages of a datagram: the highest chunk by which one may be past the pack, 0 where none has one, and whether one is
-- plain.
abbrev pub survey_all : Format → List ℕ → Survey
survey_all F s = survey_from F (length s) s min_size no_survey

-- ---- the layout checks

-- Words for the nodes of a datagram, two for each INTEGRITY message, of which 55 of 37 bytes, the fewest that one has, fit.
abbrev pub least_integrity : ℕ
least_integrity = 37

abbrev pub entry_words : ℕ
entry_words = 2 * ((max_size - min_size) / least_integrity)

-- Whether a datagram of n bytes has a sound size.
unfoldable pub has_size : ℕ → Bool
has_size n = pick (ltb n min_size) false (pick (ltb max_size n) false true)

-- The checks, with a room for the entries, which is scratch of the caller: after a refusal it has those of the messages
-- before; what stands past them stays.
unfoldable pub check_spec : Format → List ℕ → List ℕ → Checked
check_spec F room s = checked_of (layout_of F s).layout (placed room 0 (layout_of F s).entries)

-- The survey that the checks give: none after a refusal.
unfoldable pub survey_spec : Format → List ℕ → Survey
survey_spec F s = pick (eqb (number_of (layout_of F s).layout) 0) (survey_all F s) no_survey

-- What a pass gives.
pub record Pass : Type 0 where
  pub layout : Layout
  pub survey : Survey

abbrev pub pass_of : Layout → Survey → Pass
pass_of l v = record { layout = l; survey = v }

-- What the result of a pass says: none of its survey is left after a refusal.
abbrev pub pass_said : Result src.Pass Refusal → Pass
pass_said (Ok p) = pass_of (layout_said (Ok p.layout)) p.survey
pass_said (Err e) = pass_of (Fault (number e)) no_survey

-- Where the pass stands after a message, with how many words of entries; or what it gives, if it is over.
pub data Turn : Type 0 where
  On : (at entries : ℕ) (survey : Survey) → Turn
  Over : (pass : Pass) → Turn

-- What the result of a turn says.
abbrev pub turn_said : Result (ControlFlow src.Pass Reached) Refusal → Turn
turn_said (Ok (Continue r)) = On r.at r.entries r.survey
turn_said (Ok (Break p)) = Over (pass_said (Ok p))
turn_said (Err e) = Over (pass_said (Err e))

-- What a turn of the layout pass gives, and the room for the entries that it leaves.
pub record Turned : Type 0 where
  pub turn : Turn
  pub room : List ℕ

abbrev pub turned_of : Turn → List ℕ → Turned
turned_of t room = record { turn = t; room = room }

-- A pass that is over, with what it found so far.
abbrev pub over : Layout → Survey → List ℕ → Turned
over l v room = turned_of (Over (pass_of l v)) room

-- An INTEGRITY message that ends at `next`, behind `used` words of entries in the room.
unfoldable pub noted : List ℕ → ℕ → Survey → ℕ → ℕ → ℕ → Turned
noted room used v node hash next =
    pick (seen node (take used room)) (over (Fault 2) no_survey room)
    (turned_of (On next (used + 2) v) (placed room used (node ∷ hash ∷ [])))

-- A message from `at` to `next`.
abbrev pub turn_on : Format → List ℕ → List ℕ → ℕ → ℕ → Survey → ℕ → Message → Turned
turn_on F s room used at v next (Handshake a o) = over (handshake_layout s at next a o) no_survey room
turn_on F s room used at v next (Data f l x b n) = over (MessagesAndData f x b n used) (naming l v) room
turn_on F s room used at v next (Integrity f l h) = noted room used (naming l v) (f + l) h next
turn_on F s room used at v next (Ack f l d) = turned_of (On next used (surveyed F (Ack f l d) v)) room
turn_on F s room used at v next (Have f l) = turned_of (On next used (surveyed F (Have f l) v)) room
turn_on F s room used at v next (Request f l) = turned_of (On next used (surveyed F (Request f l) v)) room
turn_on F s room used at v next (Cancel f l) = turned_of (On next used (surveyed F (Cancel f l) v)) room
turn_on F s room used at v next Choke = turned_of (On next used (surveyed F Choke v)) room
turn_on F s room used at v next Unchoke = turned_of (On next used (surveyed F Unchoke v)) room
turn_on F s room used at v next (Empty k) = turned_of (On next used (surveyed F (Empty k) v)) room

-- What stands at `at`.
abbrev pub turn_at : Format → List ℕ → List ℕ → ℕ → ℕ → Survey → Step → Turned
turn_at F s room used at v (Read m next) = turn_on F s room used at v next.at m
turn_at F s room used at v End = over (Messages used) v room
turn_at F s room used at v Refused = over (Fault (step_number Refused)) no_survey room

-- What stands at `at` where it is neither a plain message nor INTEGRITY: the pass is over.
abbrev pub last_on : List ℕ → ℕ → ℕ → Survey → ℕ → Message → Pass
last_on s used at v next (Handshake a o) = pass_of (handshake_layout s at next a o) no_survey
last_on s used at v next (Data f l x b n) = pass_of (MessagesAndData f x b n used) (naming l v)
last_on s used at v next (Ack f l d) = pass_of (Fault 2) no_survey
last_on s used at v next (Have f l) = pass_of (Fault 2) no_survey
last_on s used at v next (Integrity f l h) = pass_of (Fault 2) no_survey
last_on s used at v next (Request f l) = pass_of (Fault 2) no_survey
last_on s used at v next (Cancel f l) = pass_of (Fault 2) no_survey
last_on s used at v next Choke = pass_of (Fault 2) no_survey
last_on s used at v next Unchoke = pass_of (Fault 2) no_survey
last_on s used at v next (Empty k) = pass_of (Fault 2) no_survey

abbrev pub last_at : List ℕ → ℕ → ℕ → Survey → Step → Pass
last_at s used at v (Read m next) = last_on s used at v next.at m
last_at s used at v End = pass_of (Messages used) v
last_at s used at v Refused = pass_of (Fault 2) no_survey

-- Where a turn begins: the sizes are sound, and each two words of entries came with 37 bytes at least behind the destination.
pub record Standing (s : List ℕ) (size at used : ℕ) : Type 0 where
  pub low : min_size ≤ length s
  pub high : length s ≤ max_size
  pub roomy : entry_words ≤ size
  pub within : used ≤ entry_words
  pub spent : least_integrity * used + 2 * min_size ≤ 2 * at
  pub even : used % 2 ≡ 0

-- A pass over the plain messages at the front of s: those left give what all give.
pub record Fronted (F : Format) (s : List ℕ) (f : Front) : Type 0 where
  pub low : min_size ≤ length s
  pub high : length s ≤ max_size
  pub behind : min_size ≤ f.at
  pub layout : layout_from F (length s - f.at) s [] f.at ≡ layout_from F (length s) s [] min_size
  pub survey : survey_from F (length s - f.at) s f.at f.survey ≡ survey_all F s
