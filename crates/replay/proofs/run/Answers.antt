use Rattle.trace.proofs.Promise.{finish-within}
use Rattle.replay.proofs.run.Goals as goal

pub flush-requires : goal.flush-requires
flush-requires g c = finish-within _ _ _ c.finish.ensures.finished
