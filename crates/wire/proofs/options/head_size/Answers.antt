use Rattle.std.proofs.Common.{◌≡◌}
use native.Mathlib.Omega.{arith}
use Rattle.wire.proofs.OptionsLaws.{tests}
use Rattle.wire.specs.Options.{head_size}
use borrow.Author.Rules.{rules}
use Rattle.wire.proofs.options.head_size.Goals as goal

pub returns-in-2 : goal.returns-in-2
unfolding head_size
returns-in-2 c = (rw c.in-2.is, search rules)

pub returns-in-7 : goal.returns-in-7
unfolding head_size
returns-in-7 c = (rw c.in-7.is, search rules)

pub returns-in-9 : goal.returns-in-9
unfolding head_size
returns-in-9 c = (rw c.in-9.is, search rules)

pub returns-in_default : goal.returns-in_default
unfolding head_size
returns-in_default c =
    let a : c.args.code ≡ 2 → ⊥ = omega arith in
    let b : c.args.code ≡ 7 → ⊥ = omega arith in
    let d : c.args.code ≡ 9 → ⊥ = omega arith in
    (search (tests, a, b, d), search rules)
