use native.Mathlib.Omega.{arith}
use Rattle.bits.specs.Steps.{change_range}
use Rattle.bits.proofs.RunLaws.{run_none}
use Rattle.bits.proofs.PartLaws.{range_is}
use Rattle.bits.proofs.change_range.Goals as goal

pub returns-then-upto-from : goal.returns-then-upto-from
unfolding change_range
returns-then-upto-from g c = run_none _ _ _ _ c.if-upto-from.true

pub returns : goal.returns
unfolding change_range
returns g c = range_is _ c.args.from c.args.upto c.args.ws.now (omega arith) c.if-first-last.false
    c.change_part-2.ensures
    c.change_words.ensures
    c.change_part-3.ensures
