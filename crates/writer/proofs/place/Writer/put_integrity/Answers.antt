use native.Mathlib.Omega.{arith}
use Rattle.writer.specs.Message.{bytes_of}
use Rattle.writer.proofs.PlaceLaws.{size_name}
use Rattle.writer.proofs.SourceLaws.{within-part, within-length}
use Rattle.writer.proofs.WriterLaws.{wrote_then}
use Rattle.writer.proofs.place.Writer.put_integrity.Goals as goal

pub bytes-requires : goal.bytes-requires
bytes-requires c = rw within-part (omega (arith, size_name c.args.self.now.format 4 c.args.first c.args.last, within-length c.args.bytes.now c.args.hash 32 c.requires.hash_in_bounds, c.requires.free))

pub returns : goal.returns
unfolding bytes_of
returns c = wrote_then c.name.ensures (rw within-part at c.bytes.ensures)
