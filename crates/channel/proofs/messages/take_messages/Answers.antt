use Rattle.std.proofs.Common.{rules, ap}
use Rattle.channel.specs.World.{beside}
use Rattle.channel.specs.Lent.{rooms_in, channels_in}
use Rattle.channel.specs.Take.{messages_taken}
use Rattle.channel.proofs.TakeLaws.{messages_done, quiet_affected}
use Rattle.channel.proofs.messages.take_messages.Goals as goal

pub returns-in_err-i-clause-out : goal.returns-in_err-i-clause-out
unfolding messages_taken
returns-in_err-i-clause-out c = search rules

pub returns-then-survey-clause-out : goal.returns-then-survey-clause-out
returns-then-survey-clause-out c = rw c.apply_messages.ensures.pack (ap (beside (rooms_in c.args.rooms.now)) (messages_done (channels_in c.args.rooms.now) c.args.datagram.now c.in_ok-i.ensures.answer.0 c.apply_messages.ensures.channels))

pub returns-else-survey-clause-out : goal.returns-else-survey-clause-out
returns-else-survey-clause-out c = ap (beside (rooms_in c.args.rooms.now)) (messages_done (channels_in c.args.rooms.now) c.args.datagram.now c.in_ok-i.ensures.answer.0 (quiet_affected (channels_in c.args.rooms.now) c.args.datagram.now c.requires.survey_value c.if-survey.false))
