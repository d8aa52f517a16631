use Prim.Native.Nat.{◌-◌}
use Rattle.wire.proofs.PassLaws.{Passing}
use Rattle.wire.proofs.pass.pass_behind.Given as goal

abbrev pub invariant-loop : goal.invariant-loop
invariant-loop l = Passing l.format l.initial.entries l.datagram l.entries (l.end - l.counter) l.reached.at l.reached.entries l.reached.survey
