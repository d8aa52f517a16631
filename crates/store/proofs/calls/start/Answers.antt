use Rattle.std.proofs.Common.{rules}
use Rattle.hash.proofs.Promise.{bytes_of}
use Rattle.verdict.specs.Rooms.{rooms_of}
use Rattle.store.specs.Calls.{start_spec}
use Rattle.store.proofs.CallLaws.{start-done}
use Rattle.store.proofs.calls.start.Goals as goal

pub returns-in_err-order_answer : goal.returns-in_err-order_answer
unfolding start_spec
returns-in_err-order_answer c = search rules

pub returns : goal.returns
returns c =
    let e = start-done (rooms_of c.args.chunks.now c.args.map.now c.args.hashes.now c.args.trusted.now) (bytes_of c.args.order.root.words) c.args.order.length _ (rw c.of.ensures at c.in_ok-order_answer.ensures).0 c.chunk_count-n.ensures c.start.ensures.rooms in
    search rules
