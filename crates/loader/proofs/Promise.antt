-- What holds of the interface beside the contracts of its calls, which are those of channel and writer: of lists of them demand
-- speaks, and its theorems are passed on here. Assumes nothing.
use Prim.Native.Nat.{ℕ}
use mathlib.Core.Path.{◌≡◌}
use mathlib.Core.List.{List}
use Rattle.wire.specs.declared.message.Message.{Message}
use Rattle.writer.proofs.Promise.{content_of}
use Rattle.loader.specs.Message.{numbers_of, KindFits, message_in}
use Rattle.loader.proofs.MessageLaws as message
pub use Rattle.demand.proofs.Promise.{never_short, demand_3}

-- The numbers of a message that was read from s are those of that message, its hash, chunk or root at the front of its bytes.
pub message-back : (s : List ℕ) (m : Message) → KindFits m → (next : ℕ) → message_in (numbers_of m next) ≡ (content_of s m).message
message-back = message.message-back
