use Rattle.std.proofs.Common.{rules}
use Rattle.store.specs.Answers.{order_answer}
use Rattle.store.proofs.answers.Sizes.order_answer.Goals as goal

pub returns-in_err-length_answer : goal.returns-in_err-length_answer
unfolding order_answer
returns-in_err-length_answer c = search rules

pub returns : goal.returns
unfolding order_answer
returns c = search rules
