use Rattle.wire.proofs.options.fixed_tail.Goals as goal

pub returns-in-Bins : goal.returns-in-Bins
returns-in-Bins c = rw c.in-Bins.is

pub returns-in-Ranges : goal.returns-in-Ranges
returns-in-Ranges c = rw c.in-Ranges.is
