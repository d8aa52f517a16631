use Rattle.std.proofs.Common.{◌≡◌, w32, Fits, rules}
use Rattle.bits.proofs.Promise.{row_words}
use Rattle.channel.proofs.RoomLaws.{rows_small}
use Rattle.channel.proofs.starting.clear_rows.Goals as goal

pub overflow_mul-row : goal.overflow_mul-row
overflow_mul-row c = let f : Fits w32 c.chunk_count.result = search rules in let e : c.row_words-row.result ≡ row_words c.chunk_count.result = cc in let g = rows_small _ _ e f.fits in search rules
