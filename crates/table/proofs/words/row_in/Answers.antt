use Rattle.table.specs.Words.{row_in}
use Rattle.table.proofs.words.row_in.Goals as goal

pub returns : goal.returns
unfolding row_in
returns c = rw (c.from.ensures, c.word.ensures, c.word-2.ensures, c.word-3.ensures, c.word-4.ensures)
