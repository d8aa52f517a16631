use Rattle.std.proofs.Common.{◌≡◌, refl, ap, Ok, Err, arith, length-take, rules}
use Rattle.wire.specs.declared.layout.Layout as src
use Rattle.wire.proofs.Promise.{layout_said, refusal-told}
use Rattle.channel.specs.Lent.{world_in}
use Rattle.channel.proofs.TakeLaws.{laid, laid-survey, laid_end, laid-few, laid-entries, ruled-laid, ruled-messages, ruled-fault, ruled-handshake, ruled-data}
use Rattle.channel.proofs.taking.rule_behind.Goals as goal

pub returns-in_err-pass-clause-ruled : goal.returns-in_err-pass-clause-ruled
returns-in_err-pass-clause-ruled c = let e : c.from_residual.result ≡ Err c.in_err-pass.field-0.0 = search rules in rw e (ruled-laid (world_in c.args.rooms.now) c.args.clock c.args.id c.args.datagram.now (laid _ c.requires.ordered.format _ c.args.datagram.now c.in_err-pass.ensures.0 refl) (ruled-fault (world_in c.args.rooms.now) c.args.clock c.args.id c.args.datagram.now _ (refusal-told _ _ c.args.datagram.now _ c.in_err-pass.ensures.0)))

pub returns-in_err-sent-in-HandshakeAlone-clause-ruled : goal.returns-in_err-sent-in-HandshakeAlone-clause-ruled
returns-in_err-sent-in-HandshakeAlone-clause-ruled c = let e : c.from_residual-in_err-sent-in-HandshakeAlone.result ≡ Err c.in_err-sent-in-HandshakeAlone.field-0.0 = search rules in rw e (ruled-laid (world_in c.args.rooms.now) c.args.clock c.args.id c.args.datagram.now (laid _ c.requires.ordered.format _ c.args.datagram.now c.in_ok-pass.ensures.0 (ap (λ (x : src.Layout). layout_said (Ok x)) c.in-HandshakeAlone.is)) (ruled-handshake (world_in c.args.rooms.now) c.args.clock c.args.id c.args.datagram.now _ _ c.in_err-sent-in-HandshakeAlone.ensures.out))

pub slice_bounds-entries-end : goal.slice_bounds-entries-end
slice_bounds-entries-end c = laid-few _ c.requires.ordered.format _ c.args.datagram.now c.in_ok-pass.ensures.0 (ap (λ (x : src.Layout). layout_said (Ok x)) c.in-MessagesAndData.is) (search rules)

pub slice_bounds-nodes-end : goal.slice_bounds-nodes-end
slice_bounds-nodes-end c = let f = laid-few _ c.requires.ordered.format _ c.args.datagram.now c.in_ok-pass.ensures.0 (ap (λ (x : src.Layout). layout_said (Ok x)) c.in-MessagesAndData.is) (search rules) in simp length-take (omega (arith, f))

pub take_data-requires-clause-len_in_bounds : goal.take_data-requires-clause-len_in_bounds
take_data-requires-clause-len_in_bounds c = laid_end _ c.requires.ordered.format _ c.args.datagram.now c.in_ok-pass.ensures.0 (ap (λ (x : src.Layout). layout_said (Ok x)) c.in-MessagesAndData.is)

pub take_data-requires-clause-survey_value : goal.take_data-requires-clause-survey_value
take_data-requires-clause-survey_value c = laid-survey _ c.requires.ordered.format _ c.args.datagram.now c.in_ok-pass.ensures.0 (ap (λ (x : src.Layout). layout_said (Ok x)) c.in-MessagesAndData.is) refl c.in_ok-pass.ensures.1

pub returns-in_err-sent-in-MessagesAndData-clause-ruled : goal.returns-in_err-sent-in-MessagesAndData-clause-ruled
returns-in_err-sent-in-MessagesAndData-clause-ruled c = let e : c.from_residual-in_err-sent-in-MessagesAndData.result ≡ Err c.in_err-sent-in-MessagesAndData.field-0.0 = search rules in rw e (ruled-laid (world_in c.args.rooms.now) c.args.clock c.args.id c.args.datagram.now (laid _ c.requires.ordered.format _ c.args.datagram.now c.in_ok-pass.ensures.0 (ap (λ (x : src.Layout). layout_said (Ok x)) c.in-MessagesAndData.is)) (ruled-data (world_in c.args.rooms.now) c.args.clock c.args.id c.args.datagram.now _ _ _ _ _ (laid-entries _ c.requires.ordered.format _ c.args.datagram.now c.in_ok-pass.ensures.0 (ap (λ (x : src.Layout). layout_said (Ok x)) c.in-MessagesAndData.is) (search rules)) c.in_err-sent-in-MessagesAndData.ensures.out))

pub returns-in_ok-sent-in-HandshakeAlone-clause-ruled : goal.returns-in_ok-sent-in-HandshakeAlone-clause-ruled
returns-in_ok-sent-in-HandshakeAlone-clause-ruled c = ruled-laid (world_in c.args.rooms.now) c.args.clock c.args.id c.args.datagram.now (laid _ c.requires.ordered.format _ c.args.datagram.now c.in_ok-pass.ensures.0 (ap (λ (x : src.Layout). layout_said (Ok x)) c.in-HandshakeAlone.is)) (ruled-handshake (world_in c.args.rooms.now) c.args.clock c.args.id c.args.datagram.now _ _ c.in_ok-sent-in-HandshakeAlone.ensures.out)

pub returns-in-Messages-clause-ruled : goal.returns-in-Messages-clause-ruled
returns-in-Messages-clause-ruled c = ruled-laid (world_in c.args.rooms.now) c.args.clock c.args.id c.args.datagram.now (laid _ c.requires.ordered.format _ c.args.datagram.now c.in_ok-pass.ensures.0 (ap (λ (x : src.Layout). layout_said (Ok x)) c.in-Messages.is)) (ruled-messages (world_in c.args.rooms.now) c.args.clock c.args.id c.args.datagram.now c.in-Messages.entries (laid-survey _ c.requires.ordered.format _ c.args.datagram.now c.in_ok-pass.ensures.0 (ap (λ (x : src.Layout). layout_said (Ok x)) c.in-Messages.is) refl c.in_ok-pass.ensures.1))

pub returns-in_ok-sent-in-MessagesAndData-clause-ruled : goal.returns-in_ok-sent-in-MessagesAndData-clause-ruled
returns-in_ok-sent-in-MessagesAndData-clause-ruled c = ruled-laid (world_in c.args.rooms.now) c.args.clock c.args.id c.args.datagram.now (laid _ c.requires.ordered.format _ c.args.datagram.now c.in_ok-pass.ensures.0 (ap (λ (x : src.Layout). layout_said (Ok x)) c.in-MessagesAndData.is)) (ruled-data (world_in c.args.rooms.now) c.args.clock c.args.id c.args.datagram.now _ _ _ _ _ (laid-entries _ c.requires.ordered.format _ c.args.datagram.now c.in_ok-pass.ensures.0 (ap (λ (x : src.Layout). layout_said (Ok x)) c.in-MessagesAndData.is) (search rules)) c.in_ok-sent-in-MessagesAndData.ensures.out)
