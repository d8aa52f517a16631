use Prim.Native.Nat.{◌-◌, ◌/◌}
use native.Mathlib.Nat.{lt_of_le_of_lt}
use native.Mathlib.Omega.{arith}
use mathlib.Core.Logic.{⊎_elim}
use lib.Count.{trailing_le}
use borrow.Author.Tests.{leb-false}
use Rattle.bits.proofs.HeldLaws.{held-from_le, from_past}
use Rattle.bits.proofs.OnesLaws.{low-ones-from}
use Rattle.bits.proofs.search.stop_in_word.Goals as goal

pub returns-then-upto-i : goal.returns-then-upto-i
returns-then-upto-i c = ⊎_elim
    (λ t. omega (arith, held-from_le c.args.ws.now (c.args.upto - c.args.i) c.args.i))
    (λ t. omega (arith, from_past c.args.ws.now (c.args.upto - c.args.i) c.args.i (omega arith)))
    c.then-upto-i.either

pub offset_bounds-ws-w : goal.offset_bounds-ws-w
offset_bounds-ws-w c = omega (arith, leb-false)

pub bounds-ws-w : goal.bounds-ws-w
bounds-ws-w c = omega (arith, leb-false)

pub overflow_cast-ones-2 : goal.overflow_cast-ones-2
overflow_cast-ones-2 c = record { fits = lt_of_le_of_lt (trailing_le 32 _) (omega arith) }

pub returns : goal.returns
returns c = let known = (c.type_inv.ws (c.args.i / 32)).fits in
    omega (arith, low-ones-from c.args.ws.now c.args.i (c.args.upto - c.args.i) known)
