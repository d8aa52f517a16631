use mathlib.Core.Path.{refl}
use Rattle.wire.proofs.PlacedLaws.{placed-length}
use Rattle.writer.proofs.WriterLaws.{placed_mid}
use Rattle.writer.proofs.place.Writer.bytes.Goals as goal

pub returns : goal.returns
returns c =
    let e = placed_mid c.args.self.now.room.now c.args.self.now.at c.args.bytes.now c.requires c.copy.ensures in
    record { room = refl; size = placed-length _ _ _ e; format = refl; bytes = e; at = refl }
