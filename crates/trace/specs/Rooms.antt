-- The rooms of the replay program (01, "What a store works under" and "The replay program"). Assumes nothing.
use Rattle.std.specs.Prelude.{ℕ, ◌+◌, ◌<◌, ◌≤◌, List, length}
use Rattle.channel.proofs.Promise.{World, Suffice}
use Rattle.script.proofs.Promise.{line_size}
use Rattle.trace.specs.Limits.{length_max, digits_max}

-- They are large enough: a store's for the longest pack; that for a line for more than the longest frame's digits, so
-- that a line that is too long is seen to be; that for output for the longest answer's line, of a reply that fills its
-- room, and then the closing line, of two bytes behind the number.
pub record ReplayRooms (w : World) (line_room out_room : List ℕ) : Type 0 where
  pub pack : Suffice length_max w
  pub line : digits_max < length line_room
  pub out : line_size (length w.channels.reply) + line_size 2 ≤ length out_room
