use borrow.Author.Tests.{eq-eqb, ne_eqb}
use Rattle.table.specs.Words.{has_order}
use Rattle.table.proofs.words.has_order.Goals as goal

pub returns-then-word-eq-LAYOUT_VERSION : goal.returns-then-word-eq-LAYOUT_VERSION
unfolding has_order
returns-then-word-eq-LAYOUT_VERSION c = rw (← c.word.ensures, ← c.word-then-word-eq-LAYOUT_VERSION.ensures, eq-eqb _ _ c.if-word-eq-LAYOUT_VERSION.true) c.is_method.ensures

pub returns-else-word-eq-LAYOUT_VERSION : goal.returns-else-word-eq-LAYOUT_VERSION
unfolding has_order
returns-else-word-eq-LAYOUT_VERSION c = rw (← c.word.ensures, ne_eqb _ _ c.if-word-eq-LAYOUT_VERSION.false)
