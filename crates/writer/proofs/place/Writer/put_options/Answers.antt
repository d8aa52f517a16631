use Rattle.writer.specs.Message.{option_bytes, writable_options}
use Rattle.writer.specs.Steps.{option_span}
use Rattle.writer.proofs.SizeLaws.{lies_in}
use Rattle.writer.proofs.WriterLaws.{wrote_none}
use Rattle.writer.proofs.place.Writer.put_options.Goals as goal

pub put_fixed-requires : goal.put_fixed-requires
unfolding option_span writable_options
put_fixed-requires c = record { free = rw c.in-Fixed.is at c.requires.free; root_in_bounds = lies_in _ _ _ (rw c.in-Fixed.is at c.requires.options_value) }

pub byte-requires : goal.byte-requires
unfolding option_span
byte-requires c = rw c.in-EndOnly.is at c.requires.free

pub returns-in-Fixed : goal.returns-in-Fixed
unfolding option_bytes
returns-in-Fixed c = rw c.in-Fixed.is c.put_fixed.ensures

pub returns-in-EndOnly : goal.returns-in-EndOnly
unfolding option_bytes
returns-in-EndOnly c = rw c.in-EndOnly.is c.byte.ensures

pub returns-in-Other : goal.returns-in-Other
unfolding option_bytes
returns-in-Other c = rw c.in-Other.is (wrote_none _)
