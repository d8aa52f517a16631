use Prim.Native.Nat.{◌*◌, ◌≤◌}
use mathlib.Core.Path.{◌≡◌}
use Rattle.bits.specs.Bits.{ones_over}
use Rattle.bits.proofs.ones_over.Given as goal

abbrev pub invariant-loop-w : goal.invariant-loop-w
invariant-loop-w l = (l.ones ≤ 32 * l.w) × (l.ones ≡ ones_over l.ws l.w)
