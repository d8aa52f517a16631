use Rattle.std.proofs.Common.{◌∙◌, arith}
use Rattle.hash.proofs.BytesLaws.{be_4, write_none, write-turn, write_end}
use Rattle.hash.proofs.value.write.Goals as goal

pub loop-i-init : goal.loop-i-init
loop-i-init c = write_none c.args.w.now _

pub loop-i-preserved : goal.loop-i-preserved
loop-i-preserved c = write-turn c.args.w.now c.args.b.now c.loop-i.i _ c.loop-i-test.true (omega arith) c.loop-i.invariant (c.copy_from_slice.ensures.after ∙ c.to_be_bytes.ensures ∙ be_4 _)

pub returns : goal.returns
returns c = write_end c.args.w.now c.args.b.now c.loop-i.i c.requires (omega arith) (omega arith) c.loop-i.invariant
