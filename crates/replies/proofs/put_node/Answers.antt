use Prim.Native.Nat.{◌<◌, ◌^◌}
use native.Mathlib.Omega.{arith}
use Rattle.writer.proofs.Promise.{size_name, node-nameable}
use Rattle.replies.proofs.HashLaws.{node-put}
use Rattle.replies.proofs.DatagramLaws.{puts_none}
use Rattle.replies.proofs.put_node.Goals as goal

pub overflow_cast-b : goal.overflow_cast-b
overflow_cast-b c = let h : c.in-Some.b < 2 ^ 31 = rw c.in-Some.is at c.requires.node_bound in record { fits = omega arith }

pub name-requires-clause-named : goal.name-requires-clause-named
name-requires-clause-named c =
    let h : c.in-Some.b < 2 ^ 31 = rw c.in-Some.is at c.requires.node_bound in
    rw (c.first.ensures, c.last.ensures) (node-nameable _ c.in-Some.b (omega arith))

pub put_hash-requires : goal.put_hash-requires
put_hash-requires c = omega (arith, size_name c.args.writer.now.format 4 c.first.result c.last.result, c.requires.free)

pub returns-in-Some : goal.returns-in-Some
returns-in-Some c = rw c.in-Some.is (node-put _ c.in-Some.b c.first.ensures c.last.ensures c.name.ensures c.put_hash.ensures)

pub returns-in_default : goal.returns-in_default
returns-in_default c = rw c.in_default.is (puts_none _)
