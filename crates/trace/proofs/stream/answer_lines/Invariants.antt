use Rattle.std.proofs.Common.{◌≡◌, ◌-◌, ◌≤◌, length}
use Rattle.channel.proofs.Promise.{world_in, Kept}
use Rattle.script.proofs.Promise.{filled_in, SameRoom}
use Rattle.trace.specs.Session.{replay_of}
use Rattle.trace.specs.Stream.{stream_of, answer_lines}
use Rattle.trace.proofs.BlockLaws.{rest-done}
use Rattle.trace.proofs.stream.answer_lines.Given as goal

abbrev pub invariant-loop-rooms : goal.invariant-loop-rooms
invariant-loop-rooms l = record {
  rooms : Kept l.initial.rooms l.rooms;
  line : SameRoom l.initial.line l.line;
  out : SameRoom l.initial.out l.out;
  read : l.p.read ≤ length l.block;
  done : rest-done l.block
      (stream_of (replay_of (world_in l.rooms) l.p.session.id l.p.session.stage)
      (filled_in l.line) l.p.read (filled_in l.out))
      ≡ answer_lines (replay_of (world_in l.initial.rooms) l.initial.p.session.id l.initial.p.session.stage)
      (filled_in l.initial.line) l.block l.initial.out.room.now;
}

abbrev pub decreases-loop-rooms : goal.decreases-loop-rooms
decreases-loop-rooms l = length l.block - l.p.read
