use native.Mathlib.Omega.{arith}
use mathlib.Core.Path.{◌∙◌}
use Rattle.bits.proofs.FillLaws.{filled_mid, filled_none}
use Rattle.bits.proofs.PartLaws.{change-words-are}
use Rattle.bits.proofs.change_words.Goals as goal

pub returns-then-from-end : goal.returns-then-from-end
returns-then-from-end g c = filled_mid _ c.args.from c.args.upto c.args.ws.now c.min-end.ensures c.if-from-end.true
    c.change_word.ensures (c.fill.ensures.after (λ y e. e)) ∙ change-words-are c.args.ws.now c.args.from c.args.upto _ c.requires

pub returns-else-from-end : goal.returns-else-from-end
returns-else-from-end g c = filled_none _ c.args.from c.args.upto c.args.ws.now (omega arith)
    ∙ change-words-are c.args.ws.now c.args.from c.args.upto _ c.requires
