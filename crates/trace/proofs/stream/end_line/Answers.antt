use Rattle.script.proofs.Promise.{filled, filled_in}
use Rattle.trace.proofs.StreamLaws.{begun_text, line-done}
use Rattle.trace.proofs.stream.end_line.Goals as goal

pub returns-clause-done : goal.returns-clause-done
returns-clause-done c read =
    line-done _ (filled c.args.line.now c.args.len) read (filled_in c.args.out.now) (begun_text c.args.line.now c.args.len c.min-n.ensures) c.answer-answered.ensures.answered c.put_answer.ensures.appended
