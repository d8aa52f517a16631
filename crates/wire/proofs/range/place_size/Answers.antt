use native.Mathlib.Omega.{arith}
use Rattle.wire.proofs.PlaceLaws.{place_bins, place_ranges}
use mathlib.Core.Path.{sym}
use Rattle.wire.proofs.range.place_size.Goals as goal

pub returns-in-Bins : goal.returns-in-Bins
returns-in-Bins c = (sym (place_bins _ c.in-Bins.is), omega arith, omega arith)

pub returns-in-Ranges : goal.returns-in-Ranges
returns-in-Ranges c = (sym (place_ranges _ c.in-Ranges.is), omega arith, omega arith)
