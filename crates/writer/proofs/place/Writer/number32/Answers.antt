use mathlib.Core.Path.{◌∙◌}
use Rattle.writer.proofs.WriterLaws.{be32_bytes}
use Rattle.writer.proofs.place.Writer.number32.Goals as goal

pub returns : goal.returns
returns c = rw (c.to_be_bytes.ensures ∙ be32_bytes c.args.x) at c.bytes.ensures
