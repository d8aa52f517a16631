use Prim.Native.Nat.{◌-◌, ◌*◌, ◌/◌, ◌≤◌, ◌+◌}
use mathlib.Core.Path.{◌≡◌}
use native.Mathlib.Omega.{arith}
use Rattle.bits.specs.Bits.{held_from}
use Rattle.bits.proofs.OnesLaws.{word-last}
use Rattle.bits.proofs.BlockLaws.{from-words, short_end}
use Rattle.bits.proofs.search.run_from.Goals as goal
use Rattle.bits.proofs.search.run_from.Goals.{then-w-end, else-w-end}

pub returns : goal.returns
returns c = let x = c.args.x in
    let w = c.stop_in_word-stop.result / 32 in
    let h : x ≤ 32 * w = omega arith in
    let l : 32 * w - x ≤ held_from c.args.ws.now (c.args.upto - x) x = omega arith in
    elim c.if-w-end.branch [
      | then-w-end b ↦
          let r = from-words c.args.ws.now (λ i. (c.type_inv.ws i).fits) x w c.args.upto c.if-w-end.ones h l (omega arith) b.if-w-end.true (rw b.ones-is b.ones_in_front-ones.ensures) in
          word-last c.args.ws.now x (w + c.if-w-end.ones) c.args.upto (omega arith) r.1 c.stop_in_word.ensures r.2
      | else-w-end b ↦
          let z : w + c.if-w-end.ones ≡ w = omega arith in
          word-last c.args.ws.now x w c.args.upto h l (rw z at c.stop_in_word.ensures) (short_end c.args.ws.now w c.args.upto (omega arith))
    ]
