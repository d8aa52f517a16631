use lib.ListN.{get_or}
use native.Mathlib.Omega.{arith}
use Rattle.wire.specs.Options.{option_size}
use Rattle.wire.proofs.OptionsLaws.{tests, option-short, option-cut, option-whole, head_least}
use Rattle.wire.proofs.SizeLaws.{size-none, size-there}
use Rattle.wire.proofs.options.option_size.Goals as goal
use Rattle.wire.proofs.options.option_size.Goals.{then-code-least-via-then-code-least, then-code-least-via-else-code-least+then-code-gt9}

pub returns-in_default-clause-size : goal.returns-in_default-clause-size
unfolding option_size
returns-in_default-clause-size c = size-none (search tests)

pub returns-then-code-clause-size : goal.returns-then-code-clause-size
unfolding option_size
returns-then-code-clause-size c = size-there 1 (search tests) (λ z. omega (arith, z))

pub returns-then-code-least-clause-size : goal.returns-then-code-least-clause-size
unfolding option_size
returns-then-code-least-clause-size c =
    elim c.then-code-least.branch [
      | then-code-least-via-then-code-least w ↦ size-none (search (tests, c.if-code.false))
      | then-code-least-via-else-code-least+then-code-gt9 w ↦ size-none (search (tests, c.if-code.false))
    ]

pub returns-then-rest-head-clause-size : goal.returns-then-rest-head-clause-size
returns-then-rest-head-clause-size c = size-none (option-short _ _ c.in-len1-up.len_at_least c.if-code.false c.if-code-least.false c.if-code-gt9.false _ c.head_size-head.ensures.0 c.if-rest-head.true)

pub returns-then-rest-size-clause-size : goal.returns-then-rest-size-clause-size
returns-then-rest-size-clause-size c = size-none (option-cut _ _ c.in-len1-up.len_at_least c.if-code.false c.if-code-least.false c.if-code-gt9.false _ c.head_size-head.ensures.0 _ c.body_size.ensures.0 c.if-rest-size.true)

pub returns-clause-size : goal.returns-clause-size
returns-clause-size c =
    size-there _ (option-whole _ _ c.in-len1-up.len_at_least c.if-code.false c.if-code-least.false c.if-code-gt9.false _ c.head_size-head.ensures.0 _ c.body_size.ensures.0 c.if-rest-size.false)
    (λ z. omega (arith, z, c.head_size-head.ensures.0, head_least (get_or c.args.rest.now 0 0)))
