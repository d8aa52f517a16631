use Rattle.std.proofs.Common.{◌≡◌}
use Rattle.hash.proofs.BytesLaws.{written}
use Rattle.hash.proofs.value.write.Given as goal

abbrev pub invariant-loop-i : goal.invariant-loop-i
invariant-loop-i l = l.b ≡ written l.i l.w l.initial.b
