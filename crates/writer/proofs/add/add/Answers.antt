use borrow.Author.Rules.{rules}
use Rattle.std.proofs.lemmas.Result.{err_from_is_err_and}
use Rattle.writer.proofs.AnswerLaws.{add-refused, add_done}
use Rattle.writer.proofs.WriterLaws.{then_same}
use Rattle.writer.proofs.add.add.Goals as goal

pub returns-in_err-add_answer : goal.returns-in_err-add_answer
returns-in_err-add_answer c =
    let p = err_from_is_err_and c.from_residual.result c.from_residual.ensures.1 in
    rw (p.1, p.2) (add-refused _ c.args.room.now c.args.len c.args.message c.args.bytes.now c.add_answer.ensures.answer c.in_err-add_answer.was)

pub returns : goal.returns
returns c = then_same (add_done _ c.args.room.now c.args.len c.args.message c.args.bytes.now c.add_answer.ensures.answer c.in_ok-add_answer.was c.put.ensures.at c.put.ensures.bytes) (search rules)
