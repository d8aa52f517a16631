use mathlib.Core.Path.{◌∙◌}
use Rattle.writer.proofs.WriterLaws.{be64_bytes}
use Rattle.writer.proofs.place.Writer.number64.Goals as goal

pub returns : goal.returns
returns c = rw (c.to_be_bytes.ensures ∙ be64_bytes c.args.x c.ranges.x.fits) at c.bytes.ensures
