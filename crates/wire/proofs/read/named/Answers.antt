use native.Mathlib.Omega.{arith}
use Rattle.wire.proofs.ReadLaws.{named-have, named-request, named-cancel}
use Rattle.wire.proofs.read.named.Goals as goal

pub returns-in-3 : goal.returns-in-3
returns-in-3 c = named-have _ _ _ c.in-3.is

pub returns-in-8 : goal.returns-in-8
returns-in-8 c = named-request _ _ _ c.in-8.is

pub returns-in_default : goal.returns-in_default
returns-in_default c = named-cancel c.args.kind _ _ (omega arith) (omega arith)
