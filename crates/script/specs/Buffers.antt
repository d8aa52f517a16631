-- Nothing of the papers: a buffer of the code, as a room and how many of its bytes are in use. Assumes nothing.
use Rattle.std.specs.Prelude.{◌≡◌, length}
use Rattle.script.specs.Lines.{Filled, filled}
use Rattle.script.specs.declared.buffer.Buffer.{Buffer}

abbrev pub filled_in : Buffer → Filled
filled_in b = filled b.room.now b.used

-- The same room, as long as before.
pub record SameRoom (a b : Buffer) : Type 0 where
  pub name : b.room.ghost_name ≡ a.room.ghost_name
  pub size : length b.room.now ≡ length a.room.now
