use native.Mathlib.Omega.{arith}
use Rattle.wire.specs.Read.{is_ranged}
use Rattle.wire.proofs.PlainLaws.{ranged-high, ranged-none}
use Rattle.wire.proofs.plain.is_ranged.Goals as goal

pub returns-in-3 : goal.returns-in-3
unfolding is_ranged
returns-in-3 c = rw c.in-3.is

pub returns-in-3-2 : goal.returns-in-3-2
returns-in-3-2 c = ranged-high _ (omega arith) (omega arith)

pub returns-in_default : goal.returns-in_default
returns-in_default c = ranged-none _ (omega arith) (omega arith) (omega arith)

pub returns-in_default-2 : goal.returns-in_default-2
returns-in_default-2 c = ranged-none _ (omega arith) (omega arith) (omega arith)
