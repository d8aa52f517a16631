-- Laws of the lines of blocks, step by step as the code has them. Assumes nothing.
use Rattle.std.proofs.Common.{◌≡◌, ℕ, ◌+◌, ◌-◌, ◌<◌, ◌≤◌, min, Bool, true, false, eqb, List, [], Option, Some, None, length, take, drop, sym, refl, arith, length-drop, length-take-le, eq-eqb, ne_eqb, eqb-true}
use borrow.Author.Tests.{eqb-false}
use Rattle.base.specs.Pick.{pick}
use Rattle.channel.proofs.Promise.{World, asked_of, ask_spec}
use Rattle.script.proofs.Promise.{Filled, filled, before_feed, kept, appended, answer_line, closing_line, feed_bound, append_nothing, front, added_bound}
use Rattle.trace.specs.declared.session.Stage.{Stage}
use Rattle.trace.specs.declared.session.Stage.TheVariants.{First, Later, Over}
use Rattle.trace.specs.Session.{Replay, answer_of, line_answer, end_at}
use Rattle.trace.specs.Limits.{bad_first}
use Rattle.trace.specs.Steps.{spoken}
use Rattle.trace.specs.declared.session.Reply.{Reply}
use Rattle.std.proofs.lemmas.List.{take_min}
use Rattle.trace.proofs.ReplayLaws.{end_out}
use Rattle.trace.specs.Stream.{Stream, stream_of, saying, line_done, advanced, input_done, finished}

-- ---- what is written

module _ (room : List ℕ) (used : ℕ) (reply : List ℕ) {a : Option Reply} where
  pub say-nothing : a ≡ None → filled room used ≡ appended room used (spoken a reply)
  unfolding spoken
  say-nothing e = rw e (append_nothing room used)

  pub say : {r : Reply} {n : ℕ} → a ≡ Some r → n ≡ min r.len (length reply)
      → appended room used (answer_line r.number (take n reply)) ≡ appended room used (spoken a reply)
  unfolding spoken
  say {r} e f = rw (e, f, take_min r.len reply)

module _ (room : List ℕ) (used : ℕ) (w : World) {stage : Stage} where
  pub end-first : stage ≡ First → appended room used (answer_line bad_first []) ≡ appended room used (end_at stage w)
  unfolding end_at
  end-first e = rw e

  pub end_later : stage ≡ Later → {n held : ℕ} {whole : Bool} → asked_of n held whole ≡ ask_spec w.channels.state w.rooms.map
      → appended room used (closing_line whole held) ≡ appended room used (end_at stage w)
  unfolding end_at
  end_later e a = rw (e, ← a)

  pub end-over : stage ≡ Over → filled room used ≡ appended room used (end_at stage w)
  unfolding end_at
  end-over e = rw e (append_nothing room used)

-- ---- a line answered

-- The bytes in use of a line's room, by the count as the code has it.
pub begun_text : (room : List ℕ) (used : ℕ) {n : ℕ} → n ≡ min used (length room) → take n room ≡ front (filled room used)
begun_text room used e = rw (e, take_min used room)

pub line-done : (r : Replay) (line : Filled) (read : ℕ) (out : Filled) {text : List ℕ} {after : Replay} {written : List ℕ} {o : Filled}
    → text ≡ front line → answer_of after written ≡ line_answer r text → o ≡ appended out.room out.used written
    → stream_of after (filled line.room 0) read o ≡ line_done (stream_of r line read out)
unfolding line_done
line-done r line read out g e f = rw (← g, ← e, f)

-- ---- a block read on

-- What is left of a block, and how much of it stands before a line feed.
module _ (block : List ℕ) (read : ℕ) {rest : List ℕ} (p : rest ≡ drop read block) {n : ℕ} (e : n ≡ before_feed rest) where
  pub before-length : n ≡ length (take n rest)
  before-length = sym (length-take-le n rest (omega (arith, feed_bound rest)))

  rest-length : length rest ≡ length block - read
  rest-length = rw p (length-drop read block)

  pub before-within : read ≤ length block → read + n ≤ length block
  before-within h = omega (arith, feed_bound rest, rest-length)

  pub before-less : read ≤ length block → (n ≡ length rest → ⊥) → read + n + 1 ≤ length block
  before-less h d = omega (arith, feed_bound rest, rest-length)

  module _ (r : Replay) (line out : Filled) {k : Filled} (f : k ≡ kept line.room line.used (take n rest)) where
    pub advance-on : n ≡ length rest → stream_of r k (read + n) out ≡ advanced block (stream_of r line read out)
    unfolding advanced
    advance-on h = rw (← p, ← e, eq-eqb n (length rest) h, ← f)

    pub advance-line : (n ≡ length rest → ⊥) → line_done (stream_of r k (read + n + 1) out) ≡ advanced block (stream_of r line read out)
    unfolding advanced
    advance-line h = rw (← p, ← e, ne_eqb n (length rest) h, ← f)

-- ---- how far a step goes

module _ (block : List ℕ) (s : Stream) where
  abbrev pub left : List ℕ
  left = drop s.read block

  abbrev pub line-begun : Filled
  line-begun = kept s.line.room s.line.used (take (before_feed left) left)

  -- A step, by whether there is no line feed.
  abbrev pub by : Bool → Stream
  by b =
      pick b
      (stream_of s.replay line-begun (s.read + before_feed left) s.out)
      (line_done (stream_of s.replay line-begun (s.read + before_feed left + 1) s.out))

  -- At least a byte is read of what is left of a block, and not more than all.
  pub how-far : s.read < length block → (s.read < (advanced block s).read) × ((advanced block s).read ≤ length block)
  unfolding advanced line_done
  how-far k = go (eqb (before_feed left) (length left)) refl
    where
      go : (b : Bool) → eqb (before_feed left) (length left) ≡ b → (s.read < (by b).read) × ((by b).read ≤ length block)
      go true e = let h = eqb-true (before_feed left) (length left) e in (omega (arith, length-drop s.read block), omega (arith, length-drop s.read block))
      go false e = let h = eqb-false (before_feed left) (length left) e in (omega arith, omega (arith, feed_bound left, length-drop s.read block))

  -- The output room is large enough for what is in use of it.
  pub out_within : s.out.used ≤ length s.out.room → (advanced block s).out.used ≤ length (advanced block s).out.room
  unfolding advanced line_done
  out_within h = go (eqb (before_feed left) (length left))
    where
      go : (b : Bool) → (by b).out.used ≤ length (by b).out.room
      go true = h
      go false = added_bound s.out (line_answer s.replay (front line-begun)).text h

-- ---- the end of input

pub input_none : (s : Stream) → s.line.used ≡ 0 → stream_of s.replay (filled s.line.room 0) s.read s.out ≡ input_done s
unfolding input_done
input_none s e = rw e

pub input-line : (s : Stream) → (s.line.used ≡ 0 → ⊥) → line_done s ≡ input_done s
unfolding input_done
input-line s h = rw (ne_eqb s.line.used 0 h)

pub finish_with : (r : Replay) (line : Filled) (out : List ℕ) {s : Stream} {o : Filled} → s ≡ input_done (stream_of r line 0 (filled out 0))
    → o ≡ appended s.out.room s.out.used (end_at s.replay.stage s.replay.world)
    → stream_of s.replay s.line s.read o ≡ finished r line out
unfolding finished
finish_with r line out {s} e f = rw (f, e)

pub finish-within : (r : Replay) (line : Filled) (out : List ℕ) → (finished r line out).out.used ≤ length (finished r line out).out.room
unfolding finished input_done line_done
finish-within r line out = go (eqb line.used 0)
  where
    begun : Stream
    begun = stream_of r line 0 (filled out 0)

    done : Bool → Stream
    done b = pick b begun (line_done begun)

    go : (b : Bool) → (saying (done b) (end_out (done b).replay)).out.used ≤ length (saying (done b) (end_out (done b).replay)).out.room
    go true = added_bound (filled out 0) (end_out r) (omega arith)
    go false = added_bound (done false).out (end_out (done false).replay) (added_bound (filled out 0) (line_answer r (front line)).text (omega arith))
