-- Nothing of the papers: a datagram as its bytes are written, one behind the other. Assumes nothing.
use Rattle.std.specs.Prelude.{ℕ, ◌+◌, ◌≤◌, ◌≡◌, List, length}
use Rattle.wire.specs.Bytes.{placed}
use Rattle.writer.specs.declared.place.Writer.{Writer}

-- The room has n bytes more.
abbrev pub Free : Writer → ℕ → Type 0
Free w n = w.at + n ≤ length w.room.now

-- From w to v the bytes s were written, in the same room, and the next place is behind them.
pub record Wrote (w v : Writer) (s : List ℕ) : Type 0 where
  pub room : v.room.ghost_name ≡ w.room.ghost_name
  pub size : length v.room.now ≡ length w.room.now
  pub format : v.format ≡ w.format
  pub bytes : v.room.now ≡ placed w.room.now w.at s
  pub at : v.at ≡ w.at + length s
