use mathlib.Core.Path.{◌≡◌, ap, ◌∙◌}
use native.Mathlib.Omega.{arith}
use Rattle.format.specs.declared.Format.{Format}
use Rattle.writer.specs.Message.{option_bytes, bytes_of}
use Rattle.writer.proofs.PlaceLaws.{size32}
use Rattle.writer.proofs.WriterLaws.{wrote_then, wrote_as}
use Rattle.writer.proofs.place.Writer.put_handshake.Goals as goal

pub put_options-requires-clause-free : goal.put_options-requires-clause-free
put_options-requires-clause-free c = omega (arith, size32 c.args.source, c.requires.free)

pub returns : goal.returns
unfolding bytes_of
returns c =
    let e : c.number32.new.self.format ≡ c.args.self.now.format = c.number32.ensures.format ∙ c.byte.ensures.format in
    wrote_then c.byte.ensures (wrote_then c.number32.ensures (wrote_as (ap (λ (F : Format). option_bytes F c.args.bytes.now c.args.options) e) c.put_options.ensures))
