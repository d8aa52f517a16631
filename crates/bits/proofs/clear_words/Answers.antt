use mathlib.Core.Path.{◌∙◌}
use Rattle.bits.proofs.PartLaws.{clear-words-are}
use Rattle.bits.proofs.clear_words.Goals as goal

pub returns : goal.returns
returns c = c.change_words.ensures ∙ clear-words-are _ _ _
