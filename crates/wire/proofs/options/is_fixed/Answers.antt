use mathlib.Core.Path.{sym, ◌∙◌}
use Rattle.wire.specs.Options.{fixed_head, fixed_tail}
use Rattle.wire.proofs.BytesLaws.{begins_starts}
use Rattle.wire.proofs.OptionsLaws.{fixed-short, fixed-front, fixed_back}
use Rattle.wire.proofs.options.is_fixed.Goals as goal

pub returns-then-options-lt-FIXED_SIZE : goal.returns-then-options-lt-FIXED_SIZE
returns-then-options-lt-FIXED_SIZE c = fixed-short _ _ c.if-options-lt-FIXED_SIZE.true

pub returns-then-starts_with : goal.returns-then-starts_with
returns-then-starts_with c =
    fixed_back _ _ _ (c.starts_with.ensures.value ∙ sym (begins_starts fixed_head _)) c.if-starts_with.true
    (rw c.fixed_tail-tail.ensures at c.starts_with-then-starts_with.ensures.value ∙ sym (begins_starts (fixed_tail c.args.format) _))

pub returns-else-starts_with : goal.returns-else-starts_with
returns-else-starts_with c =
    c.if-starts_with.false ∙ fixed-front _ _ _ (c.starts_with.ensures.value ∙ sym (begins_starts fixed_head _)) c.if-starts_with.false
