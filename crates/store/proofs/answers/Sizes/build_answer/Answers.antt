use Rattle.std.proofs.Common.{rules}
use Rattle.store.specs.Calls.{build_answer}
use Rattle.store.proofs.answers.Sizes.build_answer.Goals as goal

pub returns-in_err-length_answer : goal.returns-in_err-length_answer
unfolding build_answer
returns-in_err-length_answer c = search rules

pub returns-then-content-length : goal.returns-then-content-length
unfolding build_answer
returns-then-content-length c = search rules

pub returns : goal.returns
unfolding build_answer
returns c = search rules
