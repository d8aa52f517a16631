use Rattle.verdict.proofs.RoomLaws.{place_of}
use Rattle.verdict.proofs.room.place.Goals as goal

pub returns : goal.returns
returns c = place_of c.args.hashes.now c.args.b c.get.result c.as_chunks.ensures.front c.as_chunks.ensures.front_len c.get.ensures.lookup.0 c.get.ensures.lookup.1
