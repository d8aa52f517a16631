use Rattle.hash.proofs.RoundLaws.{round_law}
use Rattle.hash.proofs.block.round.Goals as goal

pub returns : goal.returns
returns c = round_law _ _ _ c.big_sigma1.ensures c.add.ensures c.ch.ensures c.add-2.ensures c.add-3.ensures c.add-t1.ensures c.big_sigma0.ensures c.maj.ensures c.add-t2.ensures c.add-4.ensures c.add-5.ensures
