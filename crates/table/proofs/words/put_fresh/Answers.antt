use Rattle.table.proofs.OrderLaws.{fresh-put}
use Rattle.table.proofs.words.put_fresh.Goals as goal

pub returns : goal.returns
returns c = fresh-put _ _ c.put_order.ensures c.clear_words.ensures
