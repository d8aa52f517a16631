use Rattle.std.proofs.Common.{◌≡◌, Err, sym, ap, ◌∙◌, rules}
use Rattle.wire.proofs.Promise.{size-sound}
use Rattle.store.proofs.Promise.{length_answer}
use Rattle.channel.specs.World.{World, order_length, order_format}
use Rattle.channel.specs.Lent.{world_in}
use Rattle.channel.specs.Take.{layout_in, take_spec}
use Rattle.channel.proofs.AcceptLaws.{own_accepted}
use Rattle.channel.proofs.TakeLaws.{take_laid, laid_unsized, ruled-done, ruled-left, left_taken}
use Rattle.channel.proofs.taking.take.Goals as goal

pub returns-in_err-own_answer-clause-out : goal.returns-in_err-own_answer-clause-out
unfolding take_spec
returns-in_err-own_answer-clause-out c = search rules

pub returns-then-not-has_size-clause-out : goal.returns-then-not-has_size-clause-out
returns-then-not-has_size-clause-out c = let p = sym c.in_ok-own_answer.ensures.0 in take_laid (world_in c.args.rooms.now) c.args.clock c.args.id c.args.datagram.now p (laid_unsized (world_in c.args.rooms.now) c.args.clock c.args.id c.args.datagram.now c.if-not-has_size.ensures)

pub plain_front-front-requires-clause-min_size_in_bounds : goal.plain_front-front-requires-clause-min_size_in_bounds
plain_front-front-requires-clause-min_size_in_bounds c = (size-sound _ (sym c.if-not-has_size.ensures)).0

pub plain_front-front-requires-clause-datagram_len_bound : goal.plain_front-front-requires-clause-datagram_len_bound
plain_front-front-requires-clause-datagram_len_bound c = (size-sound _ (sym c.if-not-has_size.ensures)).1

pub rule-requires-clause-ordered : goal.rule-requires-clause-ordered
rule-requires-clause-ordered c = let p = sym c.in_ok-own_answer.ensures.0 in record { length = (own_accepted (world_in c.args.rooms.now) p).0; format = c.format-format.ensures }

pub rule-requires-clause-max_size_in_bounds : goal.rule-requires-clause-max_size_in_bounds
rule-requires-clause-max_size_in_bounds c = let p = sym c.in_ok-own_answer.ensures.0 in (own_accepted (world_in c.args.rooms.now) p).2

pub returns-in_err-sent-clause-out : goal.returns-in_err-sent-clause-out
returns-in_err-sent-clause-out c = let p = sym c.in_ok-own_answer.ensures.0 in let e : c.from_residual-in_err-sent.result ≡ Err c.in_err-sent.field-0.0 = search rules in rw e (take_laid (world_in c.args.rooms.now) c.args.clock c.args.id c.args.datagram.now p (ruled-done (world_in c.args.rooms.now) c.args.clock c.args.id c.args.datagram.now (layout_in c.args.rooms.now.state.now c.args.datagram.now).layout c.in_err-sent.ensures.ruled))

pub take_messages-requires-clause-ordered : goal.take_messages-requires-clause-ordered
take_messages-requires-clause-ordered c =
    let p = sym c.in_ok-own_answer.ensures.0 in
    let l = ruled-left (world_in c.args.rooms.now) c.args.clock c.args.id c.args.datagram.now (layout_in c.args.rooms.now.state.now c.args.datagram.now).layout (rw c.in-MessagesLeft.is at c.in_ok-sent.ensures.ruled) in
    record {
      length = ap (λ (x : World). length_answer (order_length x.channels.state)) l.0 ∙ (own_accepted (world_in c.args.rooms.now) p).0;
      format = c.format-format.ensures ∙ sym (ap (λ (x : World). order_format x.channels.state) l.0);
    }

pub returns-in-Taken-clause-out : goal.returns-in-Taken-clause-out
returns-in-Taken-clause-out c = let p = sym c.in_ok-own_answer.ensures.0 in take_laid (world_in c.args.rooms.now) c.args.clock c.args.id c.args.datagram.now p (ruled-done (world_in c.args.rooms.now) c.args.clock c.args.id c.args.datagram.now (layout_in c.args.rooms.now.state.now c.args.datagram.now).layout (rw c.in-Taken.is at c.in_ok-sent.ensures.ruled))

pub returns-in-MessagesLeft-clause-out : goal.returns-in-MessagesLeft-clause-out
returns-in-MessagesLeft-clause-out c = let p = sym c.in_ok-own_answer.ensures.0 in let l = ruled-left (world_in c.args.rooms.now) c.args.clock c.args.id c.args.datagram.now (layout_in c.args.rooms.now.state.now c.args.datagram.now).layout (rw c.in-MessagesLeft.is at c.in_ok-sent.ensures.ruled) in take_laid (world_in c.args.rooms.now) c.args.clock c.args.id c.args.datagram.now p (left_taken (world_in c.args.rooms.now) c.args.clock c.args.id c.args.datagram.now l.0 _ l.2 c.take_messages.ensures.out)
