-- What the programs above know of this crate: its definitions, passed on, and what a frame that was read means. Assumes
-- nothing.
use mathlib.Core.Path.{◌≡◌}
use mathlib.Core.Bool.{Bool, true, false}
use mathlib.Core.List.{List, [], ◌∷◌}
use Prim.Native.Nat.{ℕ, suc, ◌+◌, ◌/◌, ◌<◌, ◌≤◌}
use Rattle.std.specs.Prelude.{Some, None}
use lib.Dec.{eqb}
use lib.ListN.{length, take}
use Rattle.base.specs.Pick.{pick}
use Rattle.script.proofs.FrameLaws as frames
use Rattle.script.proofs.LineLaws as lines
pub use Rattle.script.specs.Hex.{digit_of, digit_for, all_digits, decoded, encoded}
pub use Rattle.script.specs.Lines.{Filled, filled, front, before_feed, kept}
pub use Rattle.script.specs.Buffers.{filled_in, SameRoom}
pub use Rattle.script.specs.Frames.{has_length, is_frame, frame_number}
pub use Rattle.script.specs.Steps.{Framed, framed, frame_spec}
pub use Rattle.script.specs.Answers.{answer_line, closing_line, line_size, fits, appended}
pub use Rattle.script.proofs.RoomLaws.{added, added_size, added_bound, Keeps, keeps_nothing, keeps-part}

-- In a room for the longest line, bytes are those of a frame, at the front of the room; none means that it is no frame.
module _ (least most : ℕ) (line room : List ℕ) (wide : most / 2 ≤ length room) {left : List ℕ} where
  pub bytes-mean : {len : ℕ} → framed (Some len) left ≡ frame_spec least most line room
      → (is_frame least most line ≡ true) × (least / 2 ≤ len) × (len ≤ length left) × (take len left ≡ decoded line)
  bytes-mean = frames.bytes-mean least most line room wide

  pub bad-means : framed None left ≡ frame_spec least most line room → is_frame least most line ≡ false
  bad-means = frames.bad-means least most line room wide

-- A line that is too long is no frame.
pub long_no_frame : (least most : ℕ) (line : List ℕ) → most < length line → is_frame least most line ≡ false
long_no_frame = frames.long_no_frame

-- An answer's line: two digits a byte, and a line feed.
pub length-line : (number : ℕ) (reply : List ℕ) → length (answer_line number reply) ≡ line_size (length reply)
length-line = lines.length-line

pub length-closing : (whole : Bool) (held : ℕ) → length (closing_line whole held) ≤ 7
length-closing = lines.length-closing

-- One that fits has its place, and where it has, it fits.
pub fits_bound : (size at n : ℕ) → fits size at n ≡ true → at + line_size n ≤ size
fits_bound = lines.fits_bound

pub bound_fits : (size at n : ℕ) → at + line_size n ≤ size → fits size at n ≡ true
bound_fits = lines.bound_fits

-- The characters before the first line feed: by the first of all; they are some of all.
pub feed_nothing : before_feed [] ≡ 0
feed_nothing = lines.feed_nothing

pub feed-first : (c : ℕ) (s : List ℕ) → before_feed (c ∷ s) ≡ pick (eqb c 10) 0 (suc (before_feed s))
feed-first = lines.feed-first

pub feed_bound : (s : List ℕ) → before_feed s ≤ length s
feed_bound = lines.feed_bound

-- A room that keeps a part of a line is as long as before.
pub length-kept : (room : List ℕ) (len : ℕ) (part : List ℕ) → length (kept room len part).room ≡ length room
length-kept = lines.length-kept

-- Nothing added leaves a room as it is.
pub append_nothing : (room : List ℕ) (at : ℕ) → filled room at ≡ appended room at []
append_nothing = lines.append_nothing
