use Rattle.std.proofs.Common.{◌≡◌, length, get_or, w32, Fits, rules}
use Rattle.hash.proofs.Promise.{Words}
use Rattle.store.proofs.Promise.{rooms_of}
use Rattle.channel.specs.Starting.{build_spec}
use Rattle.channel.proofs.AcceptLaws.{built_state}
use Rattle.channel.proofs.StartLaws.{build_passed, build-begun, build-done}
use Rattle.channel.proofs.starting.build.Goals as goal

pub returns-in_err-method_answer : goal.returns-in_err-method_answer
unfolding build_spec
returns-in_err-method_answer c = search rules

pub returns-in_err-build_answer : goal.returns-in_err-build_answer
unfolding build_spec
returns-in_err-build_answer c = search rules

pub unwrap-root-requires : goal.unwrap-root-requires
unwrap-root-requires c = build-begun _ _ _ _ _ c.build.ensures.out (rw c.of.ensures at c.in_ok-build_answer.ensures.0)

pub put_fresh-requires : goal.put_fresh-requires
put_fresh-requires c = rw c.of.ensures at (built_state _ _ _ c.in_ok-build_answer.ensures.0)

pub returns : goal.returns
returns c = let eight : length c.unwrap-root.result.words ≡ 8 = search rules in let fits : Words c.unwrap-root.result.words = λ i. let f : Fits w32 (get_or c.unwrap-root.result.words i 0) = search rules in f.fits in build-done _ c.args.order c.args.content.now (build_passed _ c.args.order c.args.content.now c.in_ok-method_answer.ensures.0 c.of.ensures c.in_ok-build_answer.ensures.0) c.build.result {rooms = rooms_of c.build.new.chunks c.build.new.map c.build.new.hashes c.build.new.trusted} c.unwrap-root.result c.build.ensures.out (rw c.unwrap-root.ensures at c.build.ensures.root) eight fits c.clear_rows.ensures c.clear_rows-2.ensures c.put_fresh.ensures
