use native.Mathlib.Omega.{arith}
use Rattle.writer.specs.Message.{bytes_of}
use Rattle.writer.proofs.PlaceLaws.{size64, size_name}
use Rattle.writer.proofs.SourceLaws.{within-part, within-length}
use Rattle.writer.proofs.WriterLaws.{wrote_then}
use Rattle.writer.proofs.place.Writer.put_data.Goals as goal

pub number64-requires : goal.number64-requires
number64-requires c = omega (arith, size_name c.args.self.now.format 1 c.args.first c.args.last, c.requires.free)

pub bytes-requires : goal.bytes-requires
bytes-requires c = rw within-part (omega (arith, size_name c.args.self.now.format 1 c.args.first c.args.last, size64 c.args.timestamp, within-length c.args.bytes.now c.args.start c.args.len c.requires.len_in_bounds, c.requires.free))

pub returns : goal.returns
unfolding bytes_of
returns c = wrote_then c.name.ensures (wrote_then c.number64.ensures (rw within-part at c.bytes.ensures))
