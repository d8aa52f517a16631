use Rattle.wire.proofs.PlaceLaws.{number-bins, number-ranges, place_ranges, place-least}
use mathlib.Core.Path.{◌∙◌}
use native.Mathlib.Omega.{arith}
use Rattle.wire.proofs.chunks.Chunks.node.Goals as goal

pub load32-requires : goal.load32-requires
load32-requires c = omega (arith, c.args.self.whole, place-least c.args.self.format)

pub load32-requires-in-Ranges : goal.load32-requires-in-Ranges
load32-requires-in-Ranges c = omega (arith, c.args.self.whole, place_ranges c.args.self.format c.in-Ranges.is)

pub load32-requires-in-Ranges-2 : goal.load32-requires-in-Ranges-2
load32-requires-in-Ranges-2 c = omega (arith, c.args.self.whole, place_ranges c.args.self.format c.in-Ranges.is)

pub returns-in-Bins : goal.returns-in-Bins
returns-in-Bins c = c.from.ensures ∙ number-bins _ _ c.in-Bins.is c.load32.ensures

pub returns-in-Ranges : goal.returns-in-Ranges
returns-in-Ranges c = rw (c.from-in-Ranges.ensures, c.from-in-Ranges-2.ensures) (number-ranges _ _ c.in-Ranges.is c.load32-in-Ranges.ensures c.load32-in-Ranges-2.ensures)
