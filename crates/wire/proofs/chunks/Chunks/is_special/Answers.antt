use borrow.Author.Tests.{eq-eqb}
use mathlib.Core.Path.{◌∙◌}
use native.Mathlib.Omega.{arith}
use Rattle.wire.proofs.PlaceLaws.{special-none, special-all, special-ranges, place-least}
use Rattle.wire.proofs.chunks.Chunks.is_special.Goals as goal

pub load32-b-requires : goal.load32-b-requires
load32-b-requires c = omega (arith, c.args.self.whole, place-least c.args.self.format)

pub returns-then-b : goal.returns-then-b
returns-then-b c = eq-eqb _ _ c.if-b.true ∙ special-none _ _ c.in-Bins.is c.load32-b.ensures c.if-b.true

pub returns-else-b : goal.returns-else-b
returns-else-b c = special-all _ _ c.in-Bins.is c.load32-b.ensures c.if-b.false

pub returns-in-Ranges : goal.returns-in-Ranges
returns-in-Ranges c = special-ranges _ _ c.in-Ranges.is
