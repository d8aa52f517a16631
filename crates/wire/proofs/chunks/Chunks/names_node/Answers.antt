use native.Mathlib.Omega.{arith}
use Rattle.wire.proofs.PlaceLaws.{node-special, node-bins, node-ranges, place_ranges, place-least}
use Rattle.wire.proofs.chunks.Chunks.names_node.Goals as goal

pub returns-then-is_special : goal.returns-then-is_special
returns-then-is_special c = node-special _ _ c.is_special.ensures c.if-is_special.true

pub load32-requires : goal.load32-requires
load32-requires c = omega (arith, c.args.self.whole, place-least c.args.self.format)

pub load32-requires-in-Ranges : goal.load32-requires-in-Ranges
load32-requires-in-Ranges c = omega (arith, c.args.self.whole, place_ranges c.args.self.format c.in-Ranges.is)

pub returns-in-Bins : goal.returns-in-Bins
returns-in-Bins c = node-bins _ _ c.is_special.ensures c.if-is_special.false c.in-Bins.is

pub returns-in-Ranges : goal.returns-in-Ranges
returns-in-Ranges c = node-ranges _ _ c.is_special.ensures c.if-is_special.false c.in-Ranges.is c.load32.ensures c.load32-in-Ranges.ensures c.is_node.ensures
