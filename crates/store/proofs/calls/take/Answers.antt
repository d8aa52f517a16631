use Rattle.std.proofs.Common.{rules}
use Rattle.hash.proofs.Promise.{bytes_of}
use Rattle.verdict.specs.Integrity.{integrity_in}
use Rattle.verdict.specs.Rooms.{rooms_of}
use Rattle.store.specs.Calls.{take_spec}
use Rattle.store.proofs.CallLaws.{take-judged, take-facts}
use Rattle.store.proofs.calls.take.Goals as goal

pub returns-in_err-take_answer : goal.returns-in_err-take_answer
unfolding take_spec
returns-in_err-take_answer c = search rules

pub store_if_fits-requires : goal.store_if_fits-requires
store_if_fits-requires c = take-facts (rooms_of c.args.chunks.now c.args.map.now c.args.hashes.now c.args.trusted.now) (bytes_of c.args.order.root.words) c.args.order.length c.args.c c.args.chunk.now (integrity_in c.args.integrity) (rw c.of.ensures at c.in_ok-take_answer.ensures).0 c.chunk_count-n.result c.chunk_count-n.ensures

pub returns : goal.returns
returns c = take-judged (rooms_of c.args.chunks.now c.args.map.now c.args.hashes.now c.args.trusted.now) (bytes_of c.args.order.root.words) c.args.order.length c.args.c c.args.chunk.now (integrity_in c.args.integrity) (rw c.of.ensures at c.in_ok-take_answer.ensures).0 c.chunk_count-n.result c.chunk_count-n.ensures c.store_if_fits.ensures
