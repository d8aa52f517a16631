use native.Mathlib.Omega.{arith}
use Rattle.base.proofs.PickLaws.{both_true}
use Rattle.writer.specs.Message.{bytes_of, writable}
use Rattle.writer.specs.Steps.{size_of}
use Rattle.writer.proofs.SizeLaws.{data_in, lies_in}
use Rattle.wire.proofs.PlaceLaws.{place-least}
use Rattle.writer.proofs.place.Writer.put.Goals as goal

pub put_handshake-requires : goal.put_handshake-requires
unfolding size_of writable
put_handshake-requires c = record { free = rw c.in-Handshake.is at c.requires.free; options_value = rw c.in-Handshake.is at c.requires.message_value }

pub put_data-requires : goal.put_data-requires
unfolding size_of
put_data-requires c = record { free = rw c.in-Data.is at c.requires.free; len_in_bounds = data_in _ _ c.requires.message_value c.in-Data.is; named = (both_true _ _ (rw c.in-Data.is at c.requires.message_value_2)).0 }

pub put_ack-requires : goal.put_ack-requires
unfolding size_of
put_ack-requires c = record { free = rw c.in-Ack.is at c.requires.free; named = (both_true _ _ (rw c.in-Ack.is at c.requires.message_value_2)).0 }

pub name-requires : goal.name-requires
unfolding size_of
name-requires c = record { free = rw c.in-Have.is at c.requires.free; named = (both_true _ _ (rw c.in-Have.is at c.requires.message_value_2)).0 }

pub put_integrity-requires : goal.put_integrity-requires
unfolding size_of writable
put_integrity-requires c = record { free = rw c.in-Integrity.is at c.requires.free; hash_in_bounds = lies_in _ _ _ (rw c.in-Integrity.is at c.requires.message_value); named = (both_true _ _ (rw c.in-Integrity.is at c.requires.message_value_2)).0 }

pub name-requires-in-Request : goal.name-requires-in-Request
unfolding size_of
name-requires-in-Request c = record { free = rw c.in-Request.is at c.requires.free; named = (both_true _ _ (rw c.in-Request.is at c.requires.message_value_2)).0 }

pub name-requires-in-Cancel : goal.name-requires-in-Cancel
unfolding size_of
name-requires-in-Cancel c = record { free = rw c.in-Cancel.is at c.requires.free; named = (both_true _ _ (rw c.in-Cancel.is at c.requires.message_value_2)).0 }

pub byte-requires : goal.byte-requires
unfolding size_of
byte-requires c = rw c.in-Choke.is at c.requires.free

pub byte-requires-in-Unchoke : goal.byte-requires-in-Unchoke
unfolding size_of
byte-requires-in-Unchoke c = rw c.in-Unchoke.is at c.requires.free

pub empty-requires : goal.empty-requires
unfolding size_of
empty-requires c = let h = rw c.in-Empty.is at c.requires.free in omega (arith, h, place-least c.args.self.now.format)

pub returns-in-Handshake : goal.returns-in-Handshake
unfolding bytes_of
returns-in-Handshake c = rw c.in-Handshake.is c.put_handshake.ensures

pub returns-in-Data : goal.returns-in-Data
unfolding bytes_of
returns-in-Data c = rw c.in-Data.is c.put_data.ensures

pub returns-in-Ack : goal.returns-in-Ack
unfolding bytes_of
returns-in-Ack c = rw c.in-Ack.is c.put_ack.ensures

pub returns-in-Have : goal.returns-in-Have
unfolding bytes_of
returns-in-Have c = rw c.in-Have.is c.name.ensures

pub returns-in-Integrity : goal.returns-in-Integrity
unfolding bytes_of
returns-in-Integrity c = rw c.in-Integrity.is c.put_integrity.ensures

pub returns-in-Request : goal.returns-in-Request
unfolding bytes_of
returns-in-Request c = rw c.in-Request.is c.name-in-Request.ensures

pub returns-in-Cancel : goal.returns-in-Cancel
unfolding bytes_of
returns-in-Cancel c = rw c.in-Cancel.is c.name-in-Cancel.ensures

pub returns-in-Choke : goal.returns-in-Choke
unfolding bytes_of
returns-in-Choke c = rw c.in-Choke.is c.byte.ensures

pub returns-in-Unchoke : goal.returns-in-Unchoke
unfolding bytes_of
returns-in-Unchoke c = rw c.in-Unchoke.is c.byte-in-Unchoke.ensures

pub returns-in-Empty : goal.returns-in-Empty
unfolding bytes_of
returns-in-Empty c = rw c.in-Empty.is c.empty.ensures
