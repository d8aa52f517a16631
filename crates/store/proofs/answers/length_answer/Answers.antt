use Rattle.std.proofs.Common.{arith}
use Rattle.std.proofs.lemmas.Grind.{common_steps}
use Rattle.std.proofs.lemmas.Bool.Decides.{nat_tests}
use Rattle.store.specs.Answers.{length_answer}
use Rattle.store.proofs.answers.length_answer.Goals as goal

pub returns-then-length-eq0 : goal.returns-then-length-eq0
unfolding length_answer
returns-then-length-eq0 c = grind (arith, nat_tests, common_steps)

pub returns : goal.returns
unfolding length_answer
returns c = grind (arith, nat_tests, common_steps)
