use native.Mathlib.Omega.{arith}
use Rattle.writer.specs.Message.{bytes_of}
use Rattle.writer.proofs.PlaceLaws.{size_name}
use Rattle.writer.proofs.WriterLaws.{wrote_then}
use Rattle.writer.proofs.place.Writer.put_ack.Goals as goal

pub number64-requires : goal.number64-requires
number64-requires c = omega (arith, size_name c.args.self.now.format 2 c.args.first c.args.last, c.requires.free)

pub returns : goal.returns
unfolding bytes_of
returns c = wrote_then c.name.ensures c.number64.ensures
