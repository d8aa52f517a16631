use Rattle.table.proofs.AnswerLaws.{write_by}
use Rattle.table.proofs.answers.write_answer.Goals as goal

pub returns-clause-answer : goal.returns-clause-answer
returns-clause-answer c = rw c.ok_or.ensures.value (write_by _ _ _ c.open_row_of.ensures)
