-- Starting and taking in a datagram leave the reply room as long as it was. Assumes nothing.
use Rattle.std.proofs.Common.{◌≡◌, ℕ, List, length, refl}
use Rattle.table.specs.declared.rows.Row.{Row}
use Rattle.wire.proofs.Promise.{placed-length}
use Rattle.order.specs.declared.Order.{Order}
use Rattle.channel.specs.World.{Channels, World}
use Rattle.channel.specs.Opening.{our_handshake, occupied}
use Rattle.channel.specs.Starting.{fresh_channels, start_spec, start_number}
use Rattle.channel.specs.Take.{affected, take_spec}
use Rattle.base.proofs.OutLaws.{unless-keeps}
use Rattle.channel.proofs.KeepLaws.{take-keeps}

abbrev reply_length : Channels → ℕ
reply_length ch = length ch.reply

pub start-reply : (w : World) (o : Order) → length (start_spec w o).after.channels.reply ≡ length w.channels.reply
unfolding start_spec fresh_channels
start-reply w o = unless-keeps (λ (v : World). reply_length v.channels) (start_number w o) w _ refl

occupied-reply : (ch : Channels) (r : Row) → reply_length (occupied ch r).after ≡ reply_length ch
unfolding occupied
occupied-reply ch r = placed-length ch.reply 0 (our_handshake ch.state r) refl

affected-reply : (ch : Channels) (s : List ℕ) → reply_length (affected ch s) ≡ reply_length ch
unfolding affected
affected-reply ch s = refl

pub take-reply : (w : World) (clock id : ℕ) (s : List ℕ) → length (take_spec w clock id s).after.channels.reply ≡ length w.channels.reply
take-reply = take-keeps reply_length occupied-reply (λ ch i r. refl) affected-reply (λ ch s. placed-length ch.reply 0 s refl)
