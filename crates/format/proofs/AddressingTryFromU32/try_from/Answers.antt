use Rattle.std.proofs.Common.{◌≡◌, refl, false, eqb, ne_eqb, arith}
use Rattle.format.specs.Format.{addressing_of}
use Rattle.format.proofs.AddressingTryFromU32.try_from.Goals as goal

pub returns-in-0 : goal.returns-in-0
unfolding addressing_of
returns-in-0 c = rw c.in-0.is refl

pub returns-in-2 : goal.returns-in-2
unfolding addressing_of
returns-in-2 c = rw c.in-2.is refl

pub returns-in_default : goal.returns-in_default
unfolding addressing_of
returns-in_default c = let a : eqb c.args.method 0 ≡ false = ne_eqb _ _ (λ e. omega arith) in
    let b : eqb c.args.method 2 ≡ false = ne_eqb _ _ (λ e. omega arith) in
    rw (a, b) refl
