use Rattle.std.proofs.Common.{rules}
use Rattle.held.specs.Held.{held_spec}
use Rattle.held.proofs.ask.Goals as goal

pub returns-in_err-ask_answer : goal.returns-in_err-ask_answer
unfolding held_spec
returns-in_err-ask_answer c = search rules

pub returns : goal.returns
unfolding held_spec
returns c = search rules
