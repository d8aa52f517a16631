use native.Mathlib.Omega.{arith}
use mathlib.Core.Path.{refl}
use Rattle.effects.proofs.EffectLaws.{mark-does, empty-does, have-does, request-does, cancel-does}
use Rattle.effects.proofs.Channel.apply_plain.Goals.{in_default-via-then-kind-lt2, in_default-via-else-kind-lt2+else-kind-lt4}
use Rattle.effects.proofs.Channel.apply_plain.Goals as goal

pub returns-then-kind-gt-CANCEL-clause-effect : goal.returns-then-kind-gt-CANCEL-clause-effect
returns-then-kind-gt-CANCEL-clause-effect c = mark-does c.args.format c.args.self.now.n c.args.self.now.base _ _ c.args.self.now.choked c.args.rest.now c.if-kind-gt-CANCEL.true

pub returns-then-is_empty-clause-effect : goal.returns-then-is_empty-clause-effect
returns-then-is_empty-clause-effect c = empty-does c.args.format c.args.self.now.n c.args.self.now.base _ _ _ c.args.rest.now c.if-kind-gt-CANCEL.false c.is_empty.ensures c.if-is_empty.true

pub returns-in-2-clause-effect : goal.returns-in-2-clause-effect
returns-in-2-clause-effect c = have-does c.args.format c.args.self.now.n c.args.self.now.base _ _ _ c.args.rest.now c.if-kind-gt-CANCEL.false c.is_empty.ensures c.if-is_empty.false _ c.read-range.ensures refl c.inside.ensures.0 refl (omega arith) (omega arith) c.have.ensures.effect

pub returns-in-8-clause-effect : goal.returns-in-8-clause-effect
returns-in-8-clause-effect c = request-does c.args.format c.args.self.now.n c.args.self.now.base _ _ _ c.args.rest.now c.if-kind-gt-CANCEL.false c.is_empty.ensures c.if-is_empty.false _ c.read-range.ensures refl c.inside.ensures.0 refl c.in-8.is c.set_range.ensures

pub returns-in_default-clause-effect : goal.returns-in_default-clause-effect
returns-in_default-clause-effect c =
    elim c.in_default.branch [
      | in_default-via-then-kind-lt2 w ↦ cancel-does c.args.format c.args.self.now.n c.args.self.now.base _ _ _ c.args.rest.now c.if-kind-gt-CANCEL.false c.is_empty.ensures c.if-is_empty.false _ c.read-range.ensures refl c.inside.ensures.0 refl (λ p. omega arith) (λ p. omega arith) (λ p. omega arith) c.clear_range.ensures
      | in_default-via-else-kind-lt2+else-kind-lt4 w ↦ cancel-does c.args.format c.args.self.now.n c.args.self.now.base _ _ _ c.args.rest.now c.if-kind-gt-CANCEL.false c.is_empty.ensures c.if-is_empty.false _ c.read-range.ensures refl c.inside.ensures.0 refl (λ p. omega arith) (λ p. omega arith) (λ p. omega arith) c.clear_range.ensures
    ]
