use Rattle.std.proofs.Common.{arith}
use Rattle.trace.proofs.Promise.{rooms_suffice}
use Rattle.replay.proofs.main.Goals as goal

pub run-requires : goal.run-requires
run-requires c =
    rooms_suffice _ _ _ (omega arith) (omega arith) (omega arith) (omega arith) (omega arith) (omega arith) (omega arith)
    (omega arith) (omega arith) (omega arith)
