use native.Mathlib.Omega.{arith}
use mathlib.Core.Path.{sym, ap, ◌∙◌}
use borrow.Author.Tests.{eq-eqb, ne_eqb}
use Rattle.wire.specs.Options.{head_size, body_size}
use borrow.Author.Rules.{rules}
use Rattle.wire.proofs.options.body_size.Goals as goal

pub load16-requires : goal.load16-requires
unfolding head_size
load16-requires c = omega (arith, c.requires.code_in_bounds, ap head_size c.in-2.is)

pub bounds-rest-1 : goal.bounds-rest-1
unfolding head_size
bounds-rest-1 c = omega (arith, c.requires.code_in_bounds, ap head_size c.in-8.is)

pub returns-in-2 : goal.returns-in-2
unfolding body_size
returns-in-2 c = (simp (eq-eqb _ _ (sym c.requires.code_value ∙ c.in-2.is)) (c.from.ensures ∙ c.load16.ensures), omega (arith, c.from.ensures))

pub returns-in-8 : goal.returns-in-8
unfolding body_size
returns-in-8 c = (rw (sym c.requires.code_value ∙ c.in-8.is) c.from-in-8.ensures, omega (arith, c.from-in-8.ensures, (c.type_inv.rest 1).fits))

pub returns-in_default : goal.returns-in_default
unfolding body_size
returns-in_default c = (simp (← c.requires.code_value, ne_eqb c.args.code 2 (omega arith), ne_eqb c.args.code 8 (omega arith)), search rules)
