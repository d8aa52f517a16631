use Rattle.script.proofs.Promise.{filled}
use Rattle.trace.proofs.StreamLaws.{finish_with}
use Rattle.trace.proofs.ending.finish.Goals as goal

pub returns-clause-finished : goal.returns-clause-finished
returns-clause-finished c = finish_with _ (filled c.args.line.now c.args.len) _ c.end_input-after.ensures.done c.put_end.ensures.appended
