use native.Mathlib.Omega.{arith}
use mathlib.Core.Logic.{inl, inr}
use mathlib.Core.Path.{◌≡◌, sym, ◌∙◌}
use Rattle.held.proofs.SearchLaws.{height_is}
use Rattle.held.proofs.interval.height_within.Goals as goal

pub returns-then-not-is_within : goal.returns-then-not-is_within
returns-then-not-is_within c = (
  height_is c.args.c c.args.interval (c.requires.1, c.requires.2) c.args.most c.loop-h.h (omega arith) c.loop-h.invariant
      (inl (sym c.is_within.ensures ∙ c.if-not-is_within.true)),
  omega arith,
)

pub returns : goal.returns
returns c = let e : c.loop-h.h ≡ c.args.most = omega arith in (
  height_is c.args.c c.args.interval (c.requires.1, c.requires.2) c.args.most c.args.most (omega arith) (rw e at c.loop-h.invariant)
      (inr (omega arith)),
  omega arith,
)
