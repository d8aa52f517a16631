use Rattle.std.proofs.Common.{arith}
use Rattle.script.proofs.LineLaws.{keep-full, keep-part}
use Rattle.script.proofs.buffer.Buffer.keep.Goals as goal

pub returns-then-self-clause-kept : goal.returns-then-self-clause-kept
returns-then-self-clause-kept c = keep-full _ _ _ (omega arith)

pub returns-clause-kept : goal.returns-clause-kept
returns-clause-kept c = keep-part _ _ c.args.part.now (omega arith) c.min-n.ensures (omega arith) c.copy_from_slice.ensures.after
