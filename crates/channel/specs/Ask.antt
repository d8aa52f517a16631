-- Asking: the held count, and whole or not (01, "Entry points"), of the order's length; 11 where the room for the state is
-- too small. Assumes nothing.
use Rattle.std.specs.Prelude.{ℕ, false, List, length, nat_lt}
use Rattle.base.specs.Pick.{pick}
use Rattle.table.proofs.Promise.{state_words}
use Rattle.held.proofs.Promise.{held_spec}
use Rattle.channel.specs.World.{order_length}
pub use Rattle.held.proofs.Promise.{Asked, asked_of, asked_by}

unfoldable pub ask_spec : List ℕ → List ℕ → Asked
ask_spec st map = pick (nat_lt (length st) state_words) (asked_of 11 0 false) (held_spec (order_length st) map)
