use Rattle.std.proofs.Common.{rules, get_or, ◌+◌, sym, ◌∙◌}
use Rattle.table.specs.Words.{order_in}
use Rattle.table.proofs.OrderLaws.{array_computed}
use Rattle.table.proofs.words.order_in.Goals as goal

pub returns-then-not-has_order : goal.returns-then-not-has_order
unfolding order_in
returns-then-not-has_order c = rw (sym c.has_order.ensures ∙ c.if-not-has_order.true)

pub returns : goal.returns
unfolding order_in
returns c =
    let w = c.args.words.now in
    let root = array_computed _ (λ k. get_or w (1 + k) 0) _ (λ k b q e. search rules) _ 8 c.from_fn.ensures.items in
    rw (sym c.has_order.ensures ∙ c.if-not-has_order.false, root, c.word.ensures, c.word-2.ensures)
