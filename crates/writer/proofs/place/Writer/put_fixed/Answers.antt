use mathlib.Core.Path.{◌≡◌, ap, ◌∙◌}
use Rattle.wire.specs.Options.{fixed_tail}
use Rattle.writer.specs.Message.{option_bytes}
use Rattle.writer.proofs.SourceLaws.{within-part}
use Rattle.writer.proofs.WriterLaws.{wrote_then, wrote_as}
use Rattle.writer.proofs.place.Writer.put_fixed.Goals as goal

pub returns : goal.returns
unfolding option_bytes
returns c =
    let e : c.bytes-2.new.self.format ≡ c.args.self.now.format = c.bytes-2.ensures.format ∙ c.bytes.ensures.format in
    wrote_then c.bytes.ensures (wrote_then (rw within-part at c.bytes-2.ensures) (wrote_as (c.fixed_tail.ensures ∙ ap fixed_tail e) c.bytes-3.ensures))
