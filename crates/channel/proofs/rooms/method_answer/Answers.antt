use Rattle.std.proofs.Common.{rules}
use Rattle.channel.specs.Answers.{method_answer}
use Rattle.channel.proofs.rooms.method_answer.Goals as goal

pub returns-then-is_method : goal.returns-then-is_method
unfolding method_answer
returns-then-is_method c = search rules

pub returns-else-is_method : goal.returns-else-is_method
unfolding method_answer
returns-else-is_method c = search rules
