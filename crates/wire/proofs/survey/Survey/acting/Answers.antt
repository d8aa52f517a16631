use native.Mathlib.Omega.{arith}
use mathlib.Core.Path.{◌∙◌}
use Rattle.wire.proofs.SurveyLaws.{acting-single, acting-range, higher-max}
use Rattle.wire.proofs.survey.Survey.acting.Goals as goal

pub returns-then-size-named_size : goal.returns-then-size-named_size
returns-then-size-named_size c = acting-single _ _ _ _ c.named_size.ensures.0 c.if-size-named_size.true

pub invariant_of-reach : goal.invariant_of-reach
invariant_of-reach c = omega (arith, c.requires, c.named_size.ensures.0, c.if-size-named_size.false)

pub returns : goal.returns
returns c = acting-range _ _ _ _ c.named_size.ensures.0 c.if-size-named_size.false c.reach-reached.ensures (c.max.ensures ∙ higher-max _ _)
