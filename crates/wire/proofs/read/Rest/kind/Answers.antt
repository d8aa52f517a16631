use native.Mathlib.Omega.{arith}
use Rattle.wire.proofs.OptionsLaws.{fixed-long}
use Rattle.wire.proofs.ReadLaws.{kind-end, kind-fixed, kind-other}
use Rattle.wire.proofs.read.Rest.kind.Goals as goal

pub returns-then-size-eq1 : goal.returns-then-size-eq1
returns-then-size-eq1 c = kind-end _ _ _ _ c.requires c.if-size-eq1.true

pub overflow_add-result : goal.overflow_add-result
overflow_add-result c = record { fits = omega (arith, c.args.self.ends, fixed-long _ c.args.self.bytes.now c.is_fixed.ensures c.if-is_fixed.true) }

pub returns-then-is_fixed : goal.returns-then-is_fixed
returns-then-is_fixed c = kind-fixed _ _ _ _ c.requires c.if-size-eq1.false c.is_fixed.ensures c.if-is_fixed.true

pub returns : goal.returns
returns c = kind-other _ _ _ _ c.requires c.if-size-eq1.false c.is_fixed.ensures c.if-is_fixed.false
