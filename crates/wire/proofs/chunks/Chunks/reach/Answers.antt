use Rattle.wire.proofs.PlaceLaws.{reach-bins, reach-ranges, place_ranges, place-least}
use native.Mathlib.Omega.{arith}
use Rattle.wire.proofs.chunks.Chunks.reach.Goals as goal

pub load32-requires : goal.load32-requires
load32-requires c = omega (arith, c.args.self.whole, place-least c.args.self.format)

pub load32-requires-in-Ranges : goal.load32-requires-in-Ranges
load32-requires-in-Ranges c = omega (arith, c.args.self.whole, place_ranges c.args.self.format c.in-Ranges.is)

pub returns-in-Bins : goal.returns-in-Bins
returns-in-Bins c = reach-bins _ _ c.in-Bins.is c.load32.ensures c.first.ensures

pub returns-in-Ranges : goal.returns-in-Ranges
returns-in-Ranges c = reach-ranges _ _ c.in-Ranges.is c.load32-in-Ranges.ensures
