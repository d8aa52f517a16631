use mathlib.Core.Path.{sym}
use native.Mathlib.Omega.{arith}
use Rattle.table.proofs.RowWordLaws.{put-row-out, put-kept, put-stored}
use Rattle.table.proofs.words.put_row.Goals as goal
use Rattle.table.proofs.words.put_row.Goals.{else-i-lt-ROWS-via-then-i-lt-ROWS+else-ne, else-i-lt-ROWS-via-else-i-lt-ROWS}

pub returns-then-ne : goal.returns-then-ne
returns-then-ne c = put-stored c.args.words.now c.args.i c.args.row (omega arith) c.row_in.ensures c.ne.ensures c.if-ne.true c.store_row.ensures

pub returns-else-i-lt-ROWS : goal.returns-else-i-lt-ROWS
returns-else-i-lt-ROWS c = elim c.else-i-lt-ROWS.branch [
  | else-i-lt-ROWS-via-then-i-lt-ROWS+else-ne w ↦ put-kept c.args.words.now c.args.i c.args.row (omega arith) w.row_in.ensures w.ne.ensures w.if-ne.false
  | else-i-lt-ROWS-via-else-i-lt-ROWS w ↦ sym (put-row-out c.args.words.now c.args.i c.args.row (omega arith))
]
