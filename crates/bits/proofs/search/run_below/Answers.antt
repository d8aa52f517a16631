use Prim.Native.Nat.{◌-◌, ◌*◌, ◌/◌, ◌≤◌}
use native.Mathlib.Omega.{arith}
use Rattle.bits.specs.Bits.{held_below}
use Rattle.bits.proofs.HeldLaws.{held-below_le, below-past}
use Rattle.bits.proofs.OnesLaws.{high-ones-below}
use Rattle.bits.proofs.BlockLaws.{below-words, below_last}
use Rattle.bits.proofs.search.run_below.Goals as goal

pub returns-then-c-eq0 : goal.returns-then-c-eq0
returns-then-c-eq0 c = omega (arith, held-below_le c.args.ws.now c.args.c)

pub returns-then-ws-w : goal.returns-then-ws-w
returns-then-ws-w c = omega (arith, below-past c.args.ws.now c.args.c (omega arith))

pub returns-then-head-top : goal.returns-then-head-top
returns-then-head-top c = omega (arith, high-ones-below c.args.ws.now c.args.c (omega arith))

pub returns-then-left-eq0 : goal.returns-then-left-eq0
returns-then-left-eq0 c = let w = (c.args.c - 1) / 32 in
    let l : c.args.c - 32 * w ≤ held_below c.args.ws.now c.args.c = omega (arith, high-ones-below c.args.ws.now c.args.c (omega arith)) in
    let r = below-words c.args.ws.now (λ i. (c.type_inv.ws i).fits) c.args.c w c.ones_at_end.result (omega arith) (omega arith) l c.ones_at_end.ensures in
    omega (arith, held-below_le c.args.ws.now c.args.c)

pub returns : goal.returns
returns c = let w = (c.args.c - 1) / 32 in
    let l : c.args.c - 32 * w ≤ held_below c.args.ws.now c.args.c = omega (arith, high-ones-below c.args.ws.now c.args.c (omega arith)) in
    let r = below-words c.args.ws.now (λ i. (c.type_inv.ws i).fits) c.args.c w c.ones_at_end.result (omega arith) (omega arith) l c.ones_at_end.ensures in
    below_last c.args.ws.now (λ i. (c.type_inv.ws i).fits) c.args.c w c.ones_at_end.result (omega arith) (omega arith) r c.ones_at_end.ensures (omega arith)
