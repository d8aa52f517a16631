use Rattle.hash.proofs.BlockLaws.{block_law}
use Rattle.hash.proofs.block.block_at.Goals as goal

pub returns : goal.returns
returns c = block_law _ c.args.b.now c.args.at c.load.ensures c.load-2.ensures c.pair.ensures c.compress_words.ensures
