use Rattle.bits.proofs.PartLaws.{change-part-is, change-part-past}
use Rattle.bits.proofs.change_part.Goals as goal

pub returns-then-w-ws : goal.returns-then-w-ws
returns-then-w-ws g c = change-part-is _ c.args.ws.now c.args.from c.args.upto c.requires.0 c.requires.1 c.mask-part.ensures c.change_word.ensures

pub returns-else-w-ws : goal.returns-else-w-ws
returns-else-w-ws g c = change-part-past _ c.args.ws.now c.args.from c.args.upto c.requires.0 c.requires.1 c.if-w-ws.false
