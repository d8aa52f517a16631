-- An order as a C program has it (include/ppspp.h, struct ppspp_order): the root's 32 bytes, then the length and the method of
-- addressing, 32 bits each as x86-64 stores them, the low byte first. Assumes nothing.
use Rattle.std.specs.Prelude.{ℕ, ◌+◌, ◌*◌, List, get_or}
use Rattle.order.specs.declared.Order.{Order}
use Rattle.channel.proofs.Promise.{order_of}

-- The number in the four bytes from index k.
abbrev pub le32 : List ℕ → ℕ → ℕ
le32 s k = ((get_or s (k + 3) 0 * 256 + get_or s (k + 2) 0) * 256 + get_or s (k + 1) 0) * 256 + get_or s k 0

unfoldable pub order_from : List ℕ → Order
order_from s = order_of s (le32 s 32) (le32 s 36)
