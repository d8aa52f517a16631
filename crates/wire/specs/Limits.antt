-- The sizes of a datagram (01, "What a store works under": "a datagram is 4 to 2,048 bytes"). The numbers stand here alone.
-- Assumes nothing.
use Rattle.std.specs.Prelude.{ℕ}

abbrev pub min_size : ℕ
min_size = 4

abbrev pub max_size : ℕ
max_size = 2048
