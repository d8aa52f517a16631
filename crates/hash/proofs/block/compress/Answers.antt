use Rattle.hash.proofs.MessageLaws.{part_law}
use Rattle.hash.proofs.block.compress.Goals as goal

pub returns : goal.returns
returns c = part_law _ c.args.b.now c.args.at c.requires c.blocks-2.ensures
