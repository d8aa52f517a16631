use native.Mathlib.Omega.{arith}
use Rattle.bits.proofs.Promise.{held-below_le}
use Rattle.held.proofs.SearchLaws.{behind-le, run_is}
use Rattle.held.proofs.interval.run_around.Goals as goal

pub overflow_cast-result : goal.overflow_cast-result
overflow_cast-result c = record { fits = omega (arith, c.run_below-below.ensures, held-below_le c.args.map.now c.args.c) }

pub overflow_sub-result : goal.overflow_sub-result
overflow_sub-result c = omega (arith, c.run_below-below.ensures, held-below_le c.args.map.now c.args.c)

pub overflow_cast-result-2 : goal.overflow_cast-result-2
overflow_cast-result-2 c = record { fits = omega (arith, behind-le c.args.map.now c.args.n c.args.c c.run_from-behind.ensures) }

pub overflow_add-result : goal.overflow_add-result
overflow_add-result c = omega (arith, behind-le c.args.map.now c.args.n c.args.c c.run_from-behind.ensures)

pub returns : goal.returns
returns c = run_is c.args.map.now c.args.n c.args.c c.run_from-behind.ensures c.run_below-below.ensures
