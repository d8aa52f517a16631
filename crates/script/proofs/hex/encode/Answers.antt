use Rattle.std.proofs.Common.{◌∙◌}
use Rattle.script.proofs.HexLaws.{encode_one, encode_end}
use Rattle.script.proofs.hex.encode.Goals as goal

pub loop-i-preserved : goal.loop-i-preserved
loop-i-preserved c = encode_one c.args.bytes.now c.loop-i.i c.loop-i.part c.loop-i-test.true c.digit_for.ensures c.digit_for-in-loop-i.ensures ∙ c.loop-i.invariant

pub returns : goal.returns
returns c = encode_end c.args.bytes.now c.loop-i.i c.loop-i.part c.args.part.now c.loop-i-test.false c.requires c.loop-i.invariant
