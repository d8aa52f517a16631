use Prim.Native.Nat.{◌+◌, ◌-◌}
use mathlib.Core.Path.{◌≡◌}
use lib.ListN.{length}
use Rattle.wire.specs.Options.{options_size, options_from}
use Rattle.wire.proofs.options.options_size.Given as goal

abbrev pub invariant-loop : goal.invariant-loop
invariant-loop l = (l.at + length l.rest ≡ length l.options) × (options_size l.options ≡ options_from (11 - l.counter) l.least l.rest l.at)
