use Rattle.loader.proofs.MessageLaws.{found_none, found-message, found_end, found-refused}
use Rattle.std.proofs.Common.{ap}
use mathlib.Core.Bool.{not}
use Rattle.loader.proofs.datagrams.ppspp_read.Goals as goal

pub returns-then-not-is_method : goal.returns-then-not-is_method
returns-then-not-is_method c = rw c.number.ensures (found_none c.args.addressing c.args.datagram.now c.args.at c.args.found.now c.is_method.ensures (ap not c.if-not-is_method.true))

pub returns-in-Read : goal.returns-in-Read
returns-in-Read c = found-message c.args.addressing c.args.datagram.now c.args.at c.args.found.now c.is_method.ensures (ap not c.if-not-is_method.false) c.of_method.ensures c.read.ensures c.in-Read.is c.numbers.ensures

pub returns-in-End : goal.returns-in-End
returns-in-End c = found_end c.args.addressing c.args.datagram.now c.args.at c.args.found.now c.is_method.ensures (ap not c.if-not-is_method.false) c.of_method.ensures c.read.ensures c.in-End.is

pub returns-in-Refused : goal.returns-in-Refused
returns-in-Refused c = found-refused c.args.addressing c.args.datagram.now c.args.at c.args.found.now c.is_method.ensures (ap not c.if-not-is_method.false) c.of_method.ensures c.read.ensures c.in-Refused.is
