use Rattle.channel.proofs.Promise.{Kept}
use Rattle.script.proofs.Promise.{SameRoom}
use Rattle.replay.proofs.run.Given as goal

abbrev pub invariant-loop : goal.invariant-loop
invariant-loop g l = Kept l.initial.rooms l.rooms × SameRoom l.initial.out l.out
