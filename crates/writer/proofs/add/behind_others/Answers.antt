use mathlib.Core.Path.{◌≡◌, refl, sym, ap, ◌∙◌}
use native.Mathlib.Omega.{arith}
use borrow.Author.Rules.{rules}
use lib.Seq.{length-take-le}
use Rattle.std.specs.Prelude.{Ok, Err}
use Rattle.base.proofs.OutLaws.{low_nameless}
use Rattle.wire.specs.declared.layout.Layout as src
use Rattle.wire.proofs.Promise.{layout_said}
use Rattle.writer.proofs.AnswerLaws.{fault_numbered, told-fault, told-handshake, told-messages, told-few, told-data}
use Rattle.writer.proofs.add.behind_others.Goals as goal

pub slice_bounds-entries-end : goal.slice_bounds-entries-end
slice_bounds-entries-end c = told-few _ _ _ c.args.node c.in_ok-pass.ensures.0 (ap (λ (x : src.Layout). layout_said (Ok x)) c.in-Messages.is) (search rules)

pub slice_bounds-seen_answer-end : goal.slice_bounds-seen_answer-end
slice_bounds-seen_answer-end c = sym (length-take-le _ _ (told-few _ _ _ c.args.node c.in_ok-pass.ensures.0 (ap (λ (x : src.Layout). layout_said (Ok x)) c.in-Messages.is) (search rules)))

pub returns-in_err-pass : goal.returns-in_err-pass
returns-in_err-pass c =
    let e = c.in_err-pass.ensures.0 in
    let same : c.from_residual.result ≡ Err c.in_err-pass.field-0.0 = search rules in
    rw same (told-fault _ _ _ c.args.node e refl, low_nameless _ (let n = fault_numbered _ _ _ c.args.node e refl in omega (arith, n.1)))

pub returns-in-HandshakeAlone : goal.returns-in-HandshakeAlone
returns-in-HandshakeAlone c =
    let h = told-handshake _ _ _ c.args.node c.in_ok-pass.ensures.0 (ap (λ (x : src.Layout). layout_said (Ok x)) c.in-HandshakeAlone.is) in
    (h.0, (h.1, refl))

pub returns-in-Messages : goal.returns-in-Messages
returns-in-Messages c =
    let h = told-messages _ _ _ c.args.node c.in_ok-pass.ensures.0 (ap (λ (x : src.Layout). layout_said (Ok x)) c.in-Messages.is) (search rules) in
    (h.0, (c.seen_answer.ensures.0 ∙ h.1, c.seen_answer.ensures.1))

pub returns-in-MessagesAndData : goal.returns-in-MessagesAndData
returns-in-MessagesAndData c =
    let h = told-data _ _ _ c.args.node c.in_ok-pass.ensures.0 (ap (λ (x : src.Layout). layout_said (Ok x)) c.in-MessagesAndData.is) in
    (h.0, (h.1, refl))
