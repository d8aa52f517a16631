use Rattle.std.proofs.Common.{rules}
use Rattle.channel.specs.Adding.{adding_spec}
use Rattle.channel.proofs.datagrams.add.Goals as goal

pub returns-in_err-method_answer : goal.returns-in_err-method_answer
unfolding adding_spec
returns-in_err-method_answer c = search rules

pub returns : goal.returns
unfolding adding_spec
returns c = search rules
