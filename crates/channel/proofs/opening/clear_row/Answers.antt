use Rattle.std.proofs.Common.{◌≡◌, arith, rules}
use Rattle.bits.proofs.Promise.{row_words}
use Rattle.channel.proofs.OpenLaws.{row_small}
use Rattle.channel.proofs.opening.clear_row.Goals as goal

pub overflow_mul-from : goal.overflow_mul-from
overflow_mul-from c = let e : c.row_words-words.result ≡ row_words c.args.n = cc in omega (arith, row_small _ _ _ e (search rules) c.requires)

pub overflow_add-from : goal.overflow_add-from
overflow_add-from c = let e : c.row_words-words.result ≡ row_words c.args.n = cc in omega (arith, row_small _ _ _ e (search rules) c.requires)
