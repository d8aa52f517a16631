use Rattle.std.proofs.Common.{rules}
use Rattle.channel.specs.Opening.{open_spec}
use Rattle.channel.proofs.AcceptLaws.{own_passed, own_reply}
use Rattle.channel.proofs.OpenLaws.{open_done}
use Rattle.channel.proofs.opening.open.Goals as goal

pub returns-in_err-own_answer : goal.returns-in_err-own_answer
unfolding open_spec
returns-in_err-own_answer c = search rules

pub returns-in_err-i : goal.returns-in_err-i
unfolding open_spec
returns-in_err-i c = search rules

pub occupy-requires-clause-max_size_in_bounds : goal.occupy-requires-clause-max_size_in_bounds
occupy-requires-clause-max_size_in_bounds c = rw c.of.ensures at (own_reply _ _ c.in_ok-own_answer.ensures.0)

pub returns : goal.returns
returns c = open_done _ _ (own_passed _ c.length_in-length.ensures c.of.ensures c.in_ok-own_answer.ensures.0) c.in_ok-i.ensures.answer.0 c.occupy.ensures
