-- Why a call is refused: the numbers of 01's table, "Numbers given back". Assumes nothing.
use Rattle.std.specs.Prelude.{ℕ, Option, Some, None}
use Rattle.base.specs.declared.Refusal.{Refusal}
use Rattle.base.specs.declared.Refusal.TheVariants.{DatagramSize, Layout, Handshake, Options, NoChannel, TableFull}
use Rattle.base.specs.declared.Refusal.TheVariants.{PastPack, ChunkSize, HashMissing, HashWrong, RoomTooSmall, Order}
use Rattle.base.specs.declared.Refusal.TheVariants.{NotHeld, ChannelId}

abbrev pub number : Refusal → ℕ
number DatagramSize = 1
number Layout = 2
number Handshake = 3
number Options = 4
number NoChannel = 5
number TableFull = 6
number PastPack = 7
number ChunkSize = 8
number (HashMissing b) = 9
number (HashWrong b) = 10
number RoomTooSmall = 11
number Order = 12
number NotHeld = 13
number ChannelId = 14

-- "9 and 10 name a node" (02, No. 3).
abbrev pub node : Refusal → Option ℕ
node DatagramSize = None
node Layout = None
node Handshake = None
node Options = None
node NoChannel = None
node TableFull = None
node PastPack = None
node ChunkSize = None
node (HashMissing b) = Some b
node (HashWrong b) = Some b
node RoomTooSmall = None
node Order = None
node NotHeld = None
node ChannelId = None
