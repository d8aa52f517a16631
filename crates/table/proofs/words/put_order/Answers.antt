use lib.ListN.{length}
use mathlib.Core.Path.{◌≡◌}
use borrow.Author.Rules.{rules}
use Rattle.table.proofs.OrderLaws.{order-stored}
use Rattle.table.proofs.words.put_order.Goals as goal

pub returns : goal.returns
returns c = let eight : length c.args.order.root.words ≡ 8 = search rules in
    order-stored c.args.words.now c.args.order.root.words _ c.args.order.length c.args.order.method c.requires eight c.copy_from_slice.ensures.after
