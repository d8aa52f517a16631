use Rattle.std.proofs.Common.{sym, ◌∙◌}
use borrow.Author.Tests.{eq-eqb, ne_eqb}
use Rattle.table.specs.Rows.{row_after}
use Rattle.table.proofs.rows.Row.after.Goals as goal

pub returns-then-not-is_open : goal.returns-then-not-is_open
unfolding row_after
returns-then-not-is_open c = rw (sym c.is_open.ensures ∙ c.if-not-is_open.true)

pub returns-then-source-eq0 : goal.returns-then-source-eq0
unfolding row_after
returns-then-source-eq0 c = rw (sym c.is_open.ensures ∙ c.if-not-is_open.false, eq-eqb _ _ c.if-source-eq0.true)

pub returns-else-source-eq0 : goal.returns-else-source-eq0
unfolding row_after
returns-else-source-eq0 c = rw (sym c.is_open.ensures ∙ c.if-not-is_open.false, ne_eqb _ _ c.if-source-eq0.false)
