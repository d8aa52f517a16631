use Rattle.std.proofs.Common.{◌≡◌, Err, refl, rules}
use Rattle.base.proofs.OutLaws.{refusal_number}
use Rattle.channel.specs.Lent.{world_in}
use Rattle.channel.specs.Take.{data_taken}
use Rattle.channel.proofs.TakeLaws.{quiet_affected}
use Rattle.channel.proofs.DataLaws.{part_is, data-held, data-unfit, data-done}
use Rattle.channel.proofs.messages.take_data.Goals as goal

pub returns-in_err-i-clause-out : goal.returns-in_err-i-clause-out
unfolding data_taken
returns-in_err-i-clause-out c = search rules

pub returns-in_err-take-clause-out : goal.returns-in_err-take-clause-out
returns-in_err-take-clause-out c = let e : c.from_residual-in_err-take.result ≡ Err c.in_err-take.field-0.0 = search rules in rw e (data-unfit (world_in c.args.rooms.now) c.args.clock c.args.datagram.now c.args.entries.now c.args.came.chunk c.args.came.timestamp c.args.came.start c.args.came.len c.in_ok-i.ensures.answer.0 c.order-order.ensures (part_is c.args.datagram.now c.args.came.start c.args.came.len) c.in_err-take.ensures (refusal_number c.in_err-take.field-0.0))

pub acknowledge-sent-requires-clause-c_bound : goal.acknowledge-sent-requires-clause-c_bound
acknowledge-sent-requires-clause-c_bound c = data-held (world_in c.args.rooms.now) c.args.clock c.args.datagram.now c.args.entries.now c.args.came.chunk c.args.came.timestamp c.args.came.start c.args.came.len c.in_ok-i.ensures.answer.0 c.order-order.ensures (part_is c.args.datagram.now c.args.came.start c.args.came.len) c.in_ok-take.ensures refl

pub returns-then-survey-clause-out : goal.returns-then-survey-clause-out
returns-then-survey-clause-out c = rw c.apply_messages.ensures.pack (data-done (world_in c.args.rooms.now) c.args.clock c.args.datagram.now c.args.entries.now c.args.came.chunk c.args.came.timestamp c.args.came.start c.args.came.len c.in_ok-i.ensures.answer.0 c.order-order.ensures (part_is c.args.datagram.now c.args.came.start c.args.came.len) c.in_ok-take.ensures refl c.acknowledge-sent.ensures c.apply_messages.ensures.channels)

pub returns-else-survey-clause-out : goal.returns-else-survey-clause-out
returns-else-survey-clause-out c = data-done (world_in c.args.rooms.now) c.args.clock c.args.datagram.now c.args.entries.now c.args.came.chunk c.args.came.timestamp c.args.came.start c.args.came.len c.in_ok-i.ensures.answer.0 c.order-order.ensures (part_is c.args.datagram.now c.args.came.start c.args.came.len) c.in_ok-take.ensures refl c.acknowledge-sent.ensures (quiet_affected _ _ c.requires.survey_value c.if-survey.false)
