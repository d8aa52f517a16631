use Rattle.std.proofs.Common.{◌≡◌, refl, arith, rules}
use Rattle.channel.specs.World.{chunk_count}
use Rattle.channel.specs.Take.{messages_number}
use Rattle.channel.proofs.TakeLaws.{messages-past, messages-none}
use Rattle.channel.proofs.messages.row_for.Goals as goal

pub returns-in_err-i-clause-answer : goal.returns-in_err-i-clause-answer
unfolding messages_number
returns-in_err-i-clause-answer c = search rules

pub returns-then-chunk_count-survey-clause-answer : goal.returns-then-chunk_count-survey-clause-answer
returns-then-chunk_count-survey-clause-answer c = let n : c.chunk_count.result ≡ chunk_count c.args.rooms.now.state.now = cc in (messages-past _ _ c.load32.ensures refl c.in_ok-i.ensures.answer.0 c.requires.state_value n c.requires.survey_value c.if-chunk_count-survey.true, refl)

pub returns-clause-answer : goal.returns-clause-answer
returns-clause-answer c = let n : c.chunk_count.result ≡ chunk_count c.args.rooms.now.state.now = cc in (messages-none _ _ c.load32.ensures refl c.in_ok-i.ensures.answer.0 c.requires.state_value n c.requires.survey_value (omega arith), refl)
