use Rattle.std.proofs.Common.{◌∙◌, arith}
use Rattle.script.proofs.HexLaws.{pair_length, pair_first, digits_first, pair_end, digits_end}
use Rattle.script.proofs.hex.decode.Goals as goal

pub loop-i-preserved : goal.loop-i-preserved
loop-i-preserved c =
    let here = c.loop-i.invariant in
    let step = c.in-Some.ensures.steps in
    let rest = step.0.1.0 in
    let two = step.0.1.1 ∙ here.pairs in
    let long = pair_length _ _ rest two in
    record {
      stored = rw (step.1, step.2, c.unwrap_or.ensures, c.unwrap_or-in-loop-i.ensures) (pair_first _ _ rest two c.digit-high.ensures c.digit-low.ensures _ _ ∙ here.stored);
      all = rw (c.is_some.ensures, c.is_some-in-loop-i.ensures) (digits_first _ _ rest two c.digit-high.ensures c.digit-low.ensures _ ∙ here.all);
      pairs = step.0.0 ∙ here.pairs;
      even = omega arith;
    }

pub returns : goal.returns
returns c =
    let here = c.loop-i.invariant in
    let end = c.in-None.ensures.steps in
    (digits_end _ _ (omega arith) here.even ∙ here.all, pair_end _ _ _ (omega arith) ∙ here.stored)
