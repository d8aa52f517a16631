use borrow.Author.Rules.{rules}
use Rattle.wire_c.proofs.WordLaws.{six_stored}
use Rattle.wire_c.proofs.words.put.Goals as goal

pub returns : goal.returns
returns c = rw c.copy_from_slice.ensures.after (six_stored c.args.out.now c.args.words (search rules) c.requires)
