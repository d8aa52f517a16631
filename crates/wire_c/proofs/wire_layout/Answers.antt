use mathlib.Core.Path.{refl, ap, ◌∙◌}
use Rattle.format.specs.Format.{format_of}
use Rattle.format.specs.declared.Format.{Format}
use Rattle.wire.proofs.Promise.{check_spec}
use Rattle.wire_c.proofs.CallLaws.{layout-short, layout-few, layout-done, sound-number}
use Rattle.wire_c.proofs.wire_layout.Goals as goal

pub returns-then-out-lt6 : goal.returns-then-out-lt6
returns-then-out-lt6 c = rw c.number.ensures (layout-short (format_of c.args.addressing) c.args.datagram.now c.args.entries.now c.args.out.now c.if-out-lt6.true)

pub returns-then-entries-lt-ENTRIES : goal.returns-then-entries-lt-ENTRIES
returns-then-entries-lt-ENTRIES c = rw c.number-then-entries-lt-ENTRIES.ensures (layout-few (format_of c.args.addressing) c.args.datagram.now c.args.entries.now c.args.out.now c.if-out-lt6.false c.if-entries-lt-ENTRIES.true)

pub returns-in-Ok : goal.returns-in-Ok
returns-in-Ok c = layout-done (format_of c.args.addressing) c.args.datagram.now c.args.entries.now c.args.out.now c.if-out-lt6.false c.if-entries-lt-ENTRIES.false (c.in-Ok.ensures ∙ ap (λ (G : Format). check_spec G c.args.entries.now c.args.datagram.now) c.of_method.ensures) c.put_layout.ensures (sound-number c.in-Ok.layout)

pub returns-in-Err : goal.returns-in-Err
returns-in-Err c = layout-done (format_of c.args.addressing) c.args.datagram.now c.args.entries.now c.args.out.now c.if-out-lt6.false c.if-entries-lt-ENTRIES.false (c.in-Err.ensures ∙ ap (λ (G : Format). check_spec G c.args.entries.now c.args.datagram.now) c.of_method.ensures) refl c.number-in-Err.ensures
