use Rattle.wire.proofs.PlaceLaws.{order-bins, order-ranges, place_ranges}
use native.Mathlib.Omega.{arith}
use Rattle.wire.proofs.chunks.Chunks.in_order.Goals as goal

pub load32-requires : goal.load32-requires
load32-requires c = omega (arith, c.args.self.whole, place_ranges c.args.self.format c.in-Ranges.is)

pub load32-requires-in-Ranges : goal.load32-requires-in-Ranges
load32-requires-in-Ranges c = omega (arith, c.args.self.whole, place_ranges c.args.self.format c.in-Ranges.is)

pub returns-in-Bins : goal.returns-in-Bins
returns-in-Bins c = order-bins _ _ c.in-Bins.is

pub returns-in-Ranges : goal.returns-in-Ranges
returns-in-Ranges c = order-ranges _ _ c.in-Ranges.is c.load32.ensures c.load32-in-Ranges.ensures
