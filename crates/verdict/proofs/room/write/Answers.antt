use Rattle.std.proofs.Common.{get_or, Fits, w32, arith, rules}
use Rattle.hash.proofs.Promise.{bytes_of}
use Rattle.verdict.proofs.RoomLaws.{write_there, write-past}
use Rattle.verdict.proofs.room.write.Goals as goal

pub returns-then-b-hashes : goal.returns-then-b-hashes
returns-then-b-hashes c = write_there c.args.hashes.now c.args.b c.args.v.words (omega arith) (search rules) (λ i. let f : Fits w32 (get_or c.args.v.words i 0) = search rules in f.fits) c.copy_from_slice.ensures.after

pub returns-else-b-hashes : goal.returns-else-b-hashes
returns-else-b-hashes c = write-past c.args.hashes.now c.args.b (bytes_of c.args.v.words) c.if-b-hashes.false
