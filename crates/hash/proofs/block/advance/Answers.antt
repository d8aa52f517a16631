use Rattle.std.proofs.Common.{rules}
use Rattle.hash.proofs.RoundLaws.{steps_law}
use Rattle.hash.proofs.block.advance.Goals as goal

pub returns : goal.returns
returns c = steps_law _ _ _ (search rules) c.step-s1.ensures c.step-s2.ensures c.step-s3.ensures c.step-s4.ensures c.step-s5.ensures c.step-s6.ensures c.step-s7.ensures c.step-s8.ensures c.step-s9.ensures c.step-s10.ensures c.step-s11.ensures c.step-s12.ensures c.step-s13.ensures c.step-s14.ensures c.step-s15.ensures c.step.ensures
