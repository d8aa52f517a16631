use Rattle.std.proofs.Common.{rules}
use Rattle.held.specs.Held.{ask_number}
use Rattle.held.proofs.ask_answer.Goals as goal

pub returns-in_err-length_answer : goal.returns-in_err-length_answer
unfolding ask_number
returns-in_err-length_answer c = search rules

pub returns-then-map-row_words : goal.returns-then-map-row_words
unfolding ask_number
returns-then-map-row_words c = search rules

pub returns : goal.returns
unfolding ask_number
returns c = search rules
