use Rattle.writer.specs.Bytes.{empty_bytes}
use Rattle.writer.proofs.WriterLaws.{wrote_then}
use Rattle.writer.proofs.place.Writer.empty.Goals as goal

pub returns : goal.returns
unfolding empty_bytes
returns c = wrote_then c.byte.ensures c.number32.ensures
