use Rattle.std.proofs.Common.{length}
use Rattle.channel.proofs.Promise.{world_in, Kept}
use Rattle.script.proofs.Promise.{filled_in, SameRoom}
use Rattle.trace.proofs.Promise.{replay_of, Fed}
use Rattle.replay.proofs.feed.Given as goal

abbrev pub invariant-loop-rest : goal.invariant-loop-rest
invariant-loop-rest g l = record {
  rooms : Kept l.initial.rooms l.rooms;
  line : SameRoom l.initial.line l.line;
  out : SameRoom l.initial.out l.out;
  fed : Fed
      (replay_of (world_in l.initial.rooms) l.initial.current.id l.initial.current.stage)
      (filled_in l.initial.line) l.block l.rest
      (replay_of (world_in l.rooms) l.current.id l.current.stage)
      (filled_in l.line);
}

abbrev pub decreases-loop-rest : goal.decreases-loop-rest
decreases-loop-rest g l = length l.rest
