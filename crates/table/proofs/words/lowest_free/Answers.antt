use mathlib.Core.Path.{refl}
use borrow.Author.Tests.{tests}
use Rattle.std.proofs.Common.{rules, Bool}
use Rattle.table.specs.declared.rows.Row.{Row}
use Rattle.std.proofs.lemmas.Iterator.{YieldsList-from_range}
use Rattle.std.proofs.lemmas.Iterator.Search.{find_from_yields_List}
use Rattle.table.specs.Rows.{is_free, row_at, lowest_free}
use Rattle.table.specs.Words.{rows_in}
use Rattle.table.proofs.RowLaws.{first-found}
use Rattle.table.proofs.words.lowest_free.Goals as goal

pub returns : goal.returns
unfolding lowest_free
returns c =
    let w = c.args.words.now in
    let test : Row → Bool = λ (r : Row). is_free r.phase in
    first-found test w _ (find_from_yields_List (λ i. test (row_at (rows_in w) i)) _ _ c.find.result c.find.ensures.ran (YieldsList-from_range 0 16 16 refl refl) (λ x b q k. search (rules, tests)))
