use Rattle.loader.proofs.MessageLaws.{options_end, options-fixed, options-other}
use native.Mathlib.Omega.{arith}
use Rattle.loader.proofs.message.options_for.Goals as goal

pub returns-in-0 : goal.returns-in-0
returns-in-0 c = options_end _ c.in-0.is

pub returns-in-1 : goal.returns-in-1
returns-in-1 c = options-fixed _ c.in-1.is

pub returns-in_default : goal.returns-in_default
returns-in_default c = options-other _ (omega arith) (omega arith)
