use Rattle.std.proofs.Common.{refl, arith}
use Rattle.hash.proofs.BlockLaws.{mix-turn, mix_end}
use Rattle.hash.proofs.block.mix.Goals as goal

pub loop-row-init : goal.loop-row-init
loop-row-init c = refl

pub loop-row-preserved : goal.loop-row-preserved
loop-row-preserved c = mix-turn _ c.args.s.now c.loop-row.row-index c.loop-row.invariant c.rounds-u.ensures

pub returns : goal.returns
returns c = mix_end _ _ _ (omega arith) (omega arith) c.loop-row.invariant c.sums.ensures
