use Rattle.std.proofs.Common.{ap, sym, ◌∙◌}
use Rattle.hash.proofs.Promise.{bytes_of}
use Rattle.verdict.specs.Room.{filler}
use Rattle.verdict.proofs.RoomLaws.{hash-there, read_past}
use Rattle.verdict.proofs.room.read.Goals as goal

pub returns-in-Some : goal.returns-in-Some
returns-in-Some c = ap bytes_of c.in-Some.ensures.1 ∙ sym (hash-there _ _ c.in-Some.ensures.0)

pub returns-in-None : goal.returns-in-None
unfolding filler
returns-in-None c = c.zero.ensures ∙ sym (read_past c.args.hashes.now c.args.b c.in-None.ensures)
