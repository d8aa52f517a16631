use Rattle.std.proofs.Common.{refl, arith}
use Rattle.hash.proofs.MessageLaws.{after_none, after_turn, after_end}
use Rattle.hash.proofs.block.blocks.Goals as goal

pub loop-i-init : goal.loop-i-init
loop-i-init c = after_none _ _

pub block_at-u-requires : goal.block_at-u-requires
block_at-u-requires c = (omega arith, refl)

pub loop-i-preserved : goal.loop-i-preserved
loop-i-preserved c = after_turn _ _ _ c.loop-i.invariant c.block_at-u.ensures

pub returns : goal.returns
returns c = after_end _ _ _ _ (omega arith) (omega arith) c.loop-i.invariant
