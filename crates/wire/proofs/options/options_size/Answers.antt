use native.Mathlib.Omega.{arith}
use Prim.Native.Nat.{◌+◌, ◌-◌}
use mathlib.Core.Path.{◌≡◌, refl, sym, ◌∙◌}
use lib.ListN.{length-drop}
use Rattle.wire.specs.Options.{option_size, options_size}
use Rattle.wire.proofs.BytesLaws.{part}
use Rattle.wire.proofs.OptionsLaws.{option_code, scan-bad, scan-end, scan-on, scan-out, above-one}
use Rattle.wire.proofs.SizeLaws.{size-none, size-there, size-said, size-unsaid}
use Rattle.wire.proofs.options.options_size.Goals as goal

pub loop-init : goal.loop-init
unfolding options_size
loop-init c = (omega arith, refl)

pub returns-in_err-size-clause-size : goal.returns-in_err-size-clause-size
returns-in_err-size-clause-size c = rw c.from_residual.ensures (size-none (sym (c.loop.invariant.1 ∙ scan-bad _ _ _ _ (omega arith) (size-unsaid _ c.in_err-size.ensures.size))))

pub returns-then-size-eq1-clause-size : goal.returns-then-size-eq1-clause-size
returns-then-size-eq1-clause-size c =
    size-there _ (sym (c.loop.invariant.1 ∙ scan-end _ _ _ _ (omega arith) (sym (size-said _ c.in_ok-size.ensures.size).0 ∙ c.if-size-eq1.true)))
    (λ z. omega (arith, z))

pub returns-then-size-eq1-clause-inside : goal.returns-then-size-eq1-clause-inside
returns-then-size-eq1-clause-inside c = omega (arith, c.in_ok-size.ensures.inside, c.loop.invariant.0)

pub overflow_add-least : goal.overflow_add-least
overflow_add-least c =
    let h : (c.in_ok-size.size ≡ option_size c.loop.least c.loop.rest.now) × (c.in_ok-size.size ≡ 0 → ⊥) = size-said _ c.in_ok-size.ensures.size in
    record { fits = omega (arith, option_code _ _ (above-one _ _ _ h.0 h.1 c.if-size-eq1.false)) }

pub loop-preserved : goal.loop-preserved
loop-preserved c =
    let h : (c.in_ok-size.size ≡ option_size c.loop.least c.loop.rest.now) × (c.in_ok-size.size ≡ 0 → ⊥) = size-said _ c.in_ok-size.ensures.size in
    let q : 11 - (c.loop.counter + 1) ≡ 11 - c.loop.counter - 1 = omega arith in (
      simp (part, length-drop) (omega (arith, c.in_ok-size.ensures.inside)),
      rw q (c.loop.invariant.1 ∙ scan-on _ _ _ _ (omega arith) (above-one _ _ _ h.0 h.1 c.if-size-eq1.false) ∙ simp (← h.0, part)),
    )

pub returns-clause-size : goal.returns-clause-size
returns-clause-size c = size-none (sym (c.loop.invariant.1 ∙ scan-out _ _ _ _ (omega arith)))
