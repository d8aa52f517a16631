use native.Mathlib.Omega.{arith}
use Rattle.wire.proofs.PlaceLaws.{empty-bins, empty-ranges, place-least}
use Rattle.wire.proofs.chunks.Chunks.is_empty.Goals as goal

pub load32-requires : goal.load32-requires
load32-requires c = omega (arith, c.args.self.whole, place-least c.args.self.format)

pub returns-in-Bins : goal.returns-in-Bins
returns-in-Bins c = empty-bins _ _ c.in-Bins.is c.load32.ensures

pub returns-in-Ranges : goal.returns-in-Ranges
returns-in-Ranges c = empty-ranges _ _ c.in-Ranges.is
