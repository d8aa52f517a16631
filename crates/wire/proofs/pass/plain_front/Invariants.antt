use Prim.Native.Nat.{◌-◌}
use lib.ListN.{length}
use Rattle.wire.specs.Steps.{Fronted}
use Rattle.wire.proofs.FrontLaws.{front_of}
use Rattle.wire.proofs.pass.plain_front.Given as goal

abbrev pub invariant-loop-size : goal.invariant-loop-size
invariant-loop-size l = Fronted l.format l.datagram (front_of l.at l.survey)

abbrev pub decreases-loop-size : goal.decreases-loop-size
decreases-loop-size l = length l.datagram - l.at
