use Rattle.std.proofs.Common.{◌≡◌, ◌*◌, drop}
use lib.Seq.{sets}
use Rattle.script.specs.Hex.{encoded}
use Rattle.script.proofs.hex.encode.Given as goal

abbrev pub invariant-loop-i : goal.invariant-loop-i
invariant-loop-i l = sets l.part (2 * l.i) (encoded (drop l.i l.bytes)) ≡ sets l.initial.part 0 (encoded l.bytes)
