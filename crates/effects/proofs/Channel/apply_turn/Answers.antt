use native.Mathlib.Omega.{arith}
use mathlib.Core.Path.{refl, sym, ◌∙◌}
use mathlib.Core.Logic.{inl, inr}
use lib.ListN.{length-drop}
use Rattle.wire.proofs.Promise.{plain-inside, plain-range, size-said, size-unsaid}
use Rattle.effects.specs.Steps.{peer_in}
use Rattle.effects.proofs.EffectLaws.{part, turn-plain, turn-other, turn_over}
use borrow.Author.Rules.{rules}
use Rattle.effects.proofs.Channel.apply_turn.Goals as goal

pub slice_bounds-apply_plain-count : goal.slice_bounds-apply_plain-count
slice_bounds-apply_plain-count c = omega (arith, plain-inside _ _ _ (size-said _ c.in-Some.ensures).0 (size-said _ c.in-Some.ensures).1)

pub slice_bounds-apply_plain-start : goal.slice_bounds-apply_plain-start
slice_bounds-apply_plain-start c = omega (arith, plain-inside _ _ _ (size-said _ c.in-Some.ensures).0 (size-said _ c.in-Some.ensures).1)

pub apply_plain-requires-clause-in_bounds : goal.apply_plain-requires-clause-in_bounds
apply_plain-requires-clause-in_bounds c = simp (part, length-drop) (omega (arith, plain-inside _ _ _ (size-said _ c.in-Some.ensures).0 (size-said _ c.in-Some.ensures).1, (size-said _ c.in-Some.ensures).1))

pub apply_plain-requires-clause-format_in_bounds : goal.apply_plain-requires-clause-format_in_bounds
apply_plain-requires-clause-format_in_bounds c = simp part (plain-range _ _ _ (size-said _ c.in-Some.ensures).0 (size-said _ c.in-Some.ensures).1)

pub overflow_add-result : goal.overflow_add-result
overflow_add-result c = let h = plain-inside _ _ _ (size-said _ c.in-Some.ensures).0 (size-said _ c.in-Some.ensures).1 in search rules

pub returns-in-Some-clause-effect : goal.returns-in-Some-clause-effect
returns-in-Some-clause-effect c = turn-plain c.args.self.now.n c.args.self.now.base (peer_in c.args.self.now) _ _ _ (size-said _ c.in-Some.ensures).0 (size-said _ c.in-Some.ensures).1 c.apply_plain.ensures.effect

pub returns-in-Read-clause-effect : goal.returns-in-Read-clause-effect
returns-in-Read-clause-effect c = turn-other c.args.self.now.n c.args.self.now.base (peer_in c.args.self.now) _ refl (size-unsaid _ c.in_default.ensures) (sym c.read.ensures ∙ c.in-Read.is)

pub returns-in-End-clause-effect : goal.returns-in-End-clause-effect
returns-in-End-clause-effect c = turn_over c.args.self.now.n c.args.self.now.base (peer_in c.args.self.now) (elim c.in-End.is [ inl e ↦ inl (sym c.read.ensures ∙ e) | inr e ↦ inr (sym c.read.ensures ∙ e) ])
