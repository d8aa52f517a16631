use Rattle.loader.proofs.MessageLaws.{for-handshake, for-data, for-ack, for-have, for-integrity, for-request, for-cancel, for-choke, for-unchoke, for-low, for-empty, for-high}
use native.Mathlib.Omega.{arith}
use Rattle.loader.proofs.message.from_numbers.Goals as goal

pub overflow_cast-result : goal.overflow_cast-result
overflow_cast-result c = record { fits = omega arith }

pub returns-in-0 : goal.returns-in-0
returns-in-0 c = for-handshake _ _ _ _ _ c.options_for.ensures c.in-0.is

pub returns-in-1 : goal.returns-in-1
returns-in-1 c = for-data _ _ _ _ _ c.in-1.is

pub returns-in-2 : goal.returns-in-2
returns-in-2 c = for-ack _ _ _ _ _ c.in-2.is

pub returns-in-3 : goal.returns-in-3
returns-in-3 c = for-have _ _ _ _ _ c.in-3.is

pub returns-in-4 : goal.returns-in-4
returns-in-4 c = for-integrity _ _ _ _ _ c.in-4.is

pub returns-in-8 : goal.returns-in-8
returns-in-8 c = for-request _ _ _ _ _ c.in-8.is

pub returns-in-9 : goal.returns-in-9
returns-in-9 c = for-cancel _ _ _ _ _ c.in-9.is

pub returns-in-10 : goal.returns-in-10
returns-in-10 c = for-choke _ _ _ _ _ c.in-10.is

pub returns-in-11 : goal.returns-in-11
returns-in-11 c = for-unchoke _ _ _ _ _ c.in-11.is

pub returns-in-256-to-511 : goal.returns-in-256-to-511
returns-in-256-to-511 c = for-empty _ _ _ _ _ (omega arith) (omega arith) (omega arith) (omega arith) (omega arith) (omega arith) (omega arith) (omega arith) (omega arith) (omega arith) (omega arith)

pub returns-in_default : goal.returns-in_default
returns-in_default c = for-low _ _ _ _ _ (omega arith) (omega arith) (omega arith) (omega arith) (omega arith) (omega arith) (omega arith) (omega arith) (omega arith) (omega arith)

pub returns-in_default-2 : goal.returns-in_default-2
returns-in_default-2 c = for-high _ _ _ _ _ (omega arith) (omega arith) (omega arith) (omega arith) (omega arith) (omega arith) (omega arith) (omega arith) (omega arith) (omega arith) (omega arith)
