use native.Mathlib.Omega.{arith}
use Rattle.wire.proofs.PlaceLaws.{place-least, place_ranges}
use Rattle.writer.proofs.PlaceLaws.{bin_fits, size32, name-bins, name-ranges}
use Rattle.writer.proofs.WriterLaws.{wrote_then}
use Rattle.writer.proofs.place.Writer.name.Goals as goal

pub overflow_add-first : goal.overflow_add-first
overflow_add-first c = record { fits = omega (arith, bin_fits c.args.self.now.format _ _ (rw c.byte.ensures.format at c.in-Bins.is) c.requires.named) }

pub number32-requires : goal.number32-requires
number32-requires c = omega (arith, place-least c.args.self.now.format, c.requires.free)

pub number32-requires-in-Ranges : goal.number32-requires-in-Ranges
number32-requires-in-Ranges c = omega (arith, place-least c.args.self.now.format, c.requires.free)

pub number32-requires-in-Ranges-2 : goal.number32-requires-in-Ranges-2
number32-requires-in-Ranges-2 c = omega (arith, place_ranges c.args.self.now.format (rw c.byte.ensures.format at c.in-Ranges.is), c.requires.free, size32 c.args.first)

pub returns-in-Bins : goal.returns-in-Bins
returns-in-Bins c = rw (name-bins c.args.self.now.format _ _ _ c.requires.named (rw c.byte.ensures.format at c.in-Bins.is)) (wrote_then c.byte.ensures c.number32.ensures)

pub returns-in-Ranges : goal.returns-in-Ranges
returns-in-Ranges c = rw (name-ranges c.args.self.now.format _ _ _ c.requires.named (rw c.byte.ensures.format at c.in-Ranges.is)) (wrote_then c.byte.ensures (wrote_then c.number32-in-Ranges.ensures c.number32-in-Ranges-2.ensures))
