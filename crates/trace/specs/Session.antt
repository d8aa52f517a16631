-- A store under replay, line after line (01, "The replay program"). Assumes nothing.
use Rattle.std.specs.Prelude.{ℕ, ◌+◌, ◌%◌, ◌^◌, Bool, false, List, [], None, length, take, drop, replicate, ◌==◌, nat_le}
use Rattle.base.specs.Pick.{pick}
use Rattle.order.specs.declared.Order.{Order}
use Rattle.wire.proofs.Promise.{be32, be64}
use Rattle.channel.proofs.Promise.{World, order_of, start_spec, take_spec, ask_spec}
use Rattle.script.proofs.Promise.{is_frame, frame_number, decoded, answer_line, closing_line}
use Rattle.trace.specs.Limits.{length_max, order_digits, digits_min, digits_max, bad_first, replay_method}
use Rattle.trace.specs.declared.session.Stage.{Stage}
use Rattle.trace.specs.declared.session.Stage.TheVariants.{First, Later, Over}

-- A store, the ID for the next channel, and which line is to come.
pub record Replay : Type 0 where
  pub world : World
  pub id : ℕ
  pub stage : Stage

abbrev pub replay_of : World → ℕ → Stage → Replay
replay_of w id stage = record { world = w; id = id; stage = stage }

-- What a line gives: the replay after it, and what is written for it.
pub record Answer : Type 0 where
  pub after : Replay
  pub text : List ℕ

abbrev pub answer_of : Replay → List ℕ → Answer
answer_of r text = record { after = r; text = text }

-- The number of each stage, once line one is there or where the input ends: "A missing or bad first line ..: `0c`".
abbrev pub stage_number : Stage → ℕ
stage_number First = bad_first
stage_number Later = 0
stage_number Over = bad_first

-- ---- line one

-- "the program takes L up to 32,768"; 0 is no length.
unfoldable pub takes_length : ℕ → Bool
takes_length L = pick (L == 0) false (nat_le L length_max)

-- Whether a line is no "bad first line (not 72 hexadecimal digits, L 0 or over 32,768)".
abbrev pub is_order : List ℕ → Bool
is_order line = pick (is_frame order_digits order_digits line) (takes_length (be32 (decoded line) 32)) false

-- "Line one is root then L (32 bits)"; the order of a bad one has the length 0, which starting refuses.
unfoldable pub line_order : List ℕ → Order
line_order line =
    pick (is_order line) (order_of (decoded line) (be32 (decoded line) 32) replay_method) (order_of (replicate 32 0) 0 replay_method)

-- Line one starts the store: nothing is written, and the next line is a datagram; or else "`0c` and nothing more".
unfoldable pub first_line : Replay → List ℕ → Answer
first_line r line =
    let out = start_spec r.world (line_order line) in
    pick (out.answer == 0)
    (answer_of (replay_of out.after r.id Later) [])
    (answer_of (replay_of out.after r.id Over) (answer_line (stage_number Over) []))

-- ---- later lines

-- Whether a datagram opened a channel: it was taken, and went to channel 0.
abbrev pub opened : (answer : ℕ) → List ℕ → Bool
opened answer s = pick (answer == 0) (pick (nat_le 4 (length s)) (be32 s 0 == 0) false) false

-- "The ID passed is 1 and rises by one with each channel opened". An ID has 32 bits.
unfoldable pub next_id : (id answer : ℕ) → List ℕ → ℕ
next_id id answer s = pick (opened answer s) ((id + 1) % 2 ^ 32) id

-- "Each later line is a 64-bit clock then a datagram": it is taken in, and "the number (two hexadecimal digits) and
-- the reply" are written.
unfoldable pub frame_taken : Replay → List ℕ → Answer
frame_taken r f =
    let out = take_spec r.world (be64 f 0) r.id (drop 8 f) in
    answer_of (replay_of out.after (next_id r.id out.answer (drop 8 f)) Later)
    (answer_line out.answer (take out.len out.after.channels.reply))

-- "A line with another character, odd length, under 16 or over 4,112 digits: `0f`".
unfoldable pub later_line : Replay → List ℕ → Answer
later_line r line =
    pick (is_frame digits_min digits_max line)
    (frame_taken r (decoded line))
    (answer_of r (answer_line (frame_number None) []))

-- ---- any line

-- By which line it is; after a bad line one nothing is answered.
abbrev pub answer_at : Stage → Replay → List ℕ → Answer
answer_at First r line = first_line r line
answer_at Later r line = later_line r line
answer_at Over r line = answer_of r []

unfoldable pub line_answer : Replay → List ℕ → Answer
line_answer r line = answer_at r.stage r line

-- ---- the end

-- "at the end `ff` if whole or `f0`, then the held count".
abbrev pub closing_of : World → List ℕ
closing_of w =
    let asked = ask_spec w.channels.state w.rooms.map in
    closing_line asked.whole asked.held

-- What stands at the end: `0c` where line one is missing, and nothing more after a bad one.
unfoldable pub end_at : Stage → World → List ℕ
end_at First w = answer_line (stage_number First) []
end_at Later w = closing_of w
end_at Over w = []
