use Rattle.hash.proofs.MessageLaws.{mark_law}
use Rattle.hash.proofs.message.marked.Goals as goal

pub returns : goal.returns
returns c = mark_law c.args.tail.now c.requires c.copy_from_slice.ensures.after
