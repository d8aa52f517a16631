use Rattle.held_c.proofs.held_interval.Goals as goal

pub returns : goal.returns
returns c = rw (c.from.ensures, c.from-2.ensures, c.complete_interval-found.ensures, c.of_method.ensures)
