use Rattle.hash.specs.Block.{next}
use Rattle.hash.proofs.block.next.Goals as goal

pub returns : goal.returns
unfolding next
returns c = cc
