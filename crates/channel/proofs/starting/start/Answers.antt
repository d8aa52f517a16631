use Rattle.std.proofs.Common.{rules}
use Rattle.store.proofs.Promise.{rooms_of}
use Rattle.channel.specs.Starting.{start_spec}
use Rattle.channel.proofs.AcceptLaws.{all_state}
use Rattle.channel.proofs.StartLaws.{start_passed, start-begun, start-done}
use Rattle.channel.proofs.starting.start.Goals as goal

pub returns-in_err-method_answer : goal.returns-in_err-method_answer
unfolding start_spec
returns-in_err-method_answer c = search rules

pub returns-in_err-order_answer : goal.returns-in_err-order_answer
unfolding start_spec
returns-in_err-order_answer c = search rules

pub unwrap-requires : goal.unwrap-requires
unwrap-requires c = start-begun _ _ _ _ _ c.start.ensures (rw c.of.ensures at c.in_ok-order_answer.ensures.0)

pub put_fresh-requires : goal.put_fresh-requires
put_fresh-requires c = rw c.of.ensures at (all_state _ _ c.in_ok-order_answer.ensures.0)

pub returns : goal.returns
returns c = start-done _ c.args.order (start_passed _ c.args.order c.in_ok-method_answer.ensures.0 c.of.ensures c.in_ok-order_answer.ensures.0) c.start.result {rooms = rooms_of c.args.chunks.now c.start.new.map c.start.new.hashes c.start.new.trusted} c.start.ensures c.clear_rows.ensures c.clear_rows-2.ensures c.put_fresh.ensures
