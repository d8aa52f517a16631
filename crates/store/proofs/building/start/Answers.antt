use native.Mathlib.Omega.{arith}
use Rattle.hash.proofs.Promise.{bytes_of}
use Rattle.store.proofs.StartedLaws.{started_is}
use Rattle.tree.proofs.PackLaws.{places_small}
use borrow.Author.Rules.{rules}
use Rattle.store.proofs.building.start.Goals as goal

pub overflow_mul-w : goal.overflow_mul-w
overflow_mul-w c = let g = places_small 32 _ _ c.leaf_places-w.ensures (omega arith) in search rules

pub returns-clause-rooms : goal.returns-clause-rooms
returns-clause-rooms c = started_is c.args.map.now c.args.nodes.now.hashes.now c.args.nodes.now.trusted.now c.args.n (bytes_of c.args.root.words) _ c.leaf_places-w.ensures (rw c.from.ensures at c.clear_row.ensures) c.clear_row-2.ensures c.trust.ensures.puts.hashes c.trust.ensures.puts.trusted
