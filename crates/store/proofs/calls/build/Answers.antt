use Rattle.std.proofs.Common.{◌≡◌, Err, rules}
use Rattle.verdict.specs.Rooms.{rooms_of}
use Rattle.store.specs.Calls.{build_spec}
use Rattle.store.specs.Building.{root_of}
use Rattle.store.proofs.CallLaws.{build-facts, given_filler}
use Rattle.store.proofs.calls.build.Goals as goal

pub returns-in_err-build_answer-clause-out : goal.returns-in_err-build_answer-clause-out
unfolding build_spec
returns-in_err-build_answer-clause-out c = search rules

pub returns-in_err-build_answer-clause-given : goal.returns-in_err-build_answer-clause-given
returns-in_err-build_answer-clause-given c = let e : c.from_residual.result ≡ Err c.in_err-build_answer.field-0.0 = search rules in rw e (search (given_filler))

pub invariant_of-build : goal.invariant_of-build
invariant_of-build c = record { counted = (build-facts (rooms_of c.args.chunks.now c.args.map.now c.args.hashes.now c.args.trusted.now) c.args.length _ c.args.content.now (rw c.of.ensures at c.in_ok-build_answer.ensures).0 c.chunk_count-n.ensures).0 }

pub build-requires : goal.build-requires
build-requires c =
    let f = build-facts (rooms_of c.args.chunks.now c.args.map.now c.args.hashes.now c.args.trusted.now) c.args.length _ c.args.content.now (rw c.of.ensures at c.in_ok-build_answer.ensures).0 c.chunk_count-n.ensures in
    (f.1, f.2)

pub returns-clause-out : goal.returns-clause-out
unfolding build_spec
returns-clause-out c = search rules
