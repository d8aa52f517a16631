use Rattle.std.proofs.Common.{rules}
use Rattle.channel.specs.Write.{held_answer}
use Rattle.channel.proofs.writing.held_answer.Goals as goal

pub returns-then-n-c : goal.returns-then-n-c
unfolding held_answer
returns-then-n-c c = search rules

pub returns-then-not-test : goal.returns-then-not-test
unfolding held_answer
returns-then-not-test c = search rules

pub returns : goal.returns
unfolding held_answer
returns c = search rules
