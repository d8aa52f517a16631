-- What taking in a datagram keeps of the channels, whatever the datagram: all that opening a channel, changing a row, the
-- effects of messages and writing a reply keep. Assumes nothing.
use Rattle.std.proofs.Common.{◌≡◌, ℕ, Bool, true, false, eqb, List, refl, ◌∙◌}
use Rattle.base.specs.Pick.{pick}
use Rattle.table.specs.declared.rows.Row.{Row}
use Rattle.table.proofs.Promise.{put_row, handshake_answer}
use Rattle.wire.proofs.Promise.{be32}
use Rattle.wire.specs.declared.message.Options.{Options}
use Rattle.wire.proofs.Promise.{Layout, Fault, HandshakeAlone, Messages, MessagesAndData}
use Rattle.channel.specs.World.{Channels, channels_of, World, Out, out_of, order_root, table_rows}
use Rattle.channel.specs.Answers.{own_rooms_answer}
use Rattle.channel.specs.Opening.{opened_row, occupied}
use Rattle.channel.specs.Take.{ours, handshake_taken, messages_number, affected, messages_taken, replied, store_out, data_by, data_taken, by_layout, take_spec, layout_in}
use Rattle.base.proofs.OutLaws.{at-keeps, unless-keeps}

module _ {A : Type 0} (f : Channels → A)
    (opening : (ch : Channels) (r : Row) → f (occupied ch r).after ≡ f ch)
    (changing : (ch : Channels) (i : ℕ) (r : Row) → f (channels_of (put_row ch.state i r) ch.has ch.wants ch.reply) ≡ f ch)
    (affecting : (ch : Channels) (s : List ℕ) → f (affected ch s) ≡ f ch)
    (replying : (ch : Channels) (s : List ℕ) → f (replied ch s) ≡ f ch) where
  abbrev of-world : World → A
  of-world w = f w.channels

  either : (b : Bool) (ch : Channels) (x y : Out Channels) → f x.after ≡ f ch → f y.after ≡ f ch → f (pick b x y).after ≡ f ch
  either true ch x y p q = p
  either false ch x y p q = q

  handshake-keeps : (ch : Channels) (id : ℕ) (s : List ℕ) (source : ℕ) (o : Options) → f (handshake_taken ch id s source o).after ≡ f ch
  unfolding handshake_taken
  handshake-keeps ch id s source o =
      unless-keeps f (handshake_answer (table_rows ch.state) (be32 s 0) source (ours (order_root ch.state) s o) id) ch _
      (either (eqb (be32 s 0) 0) ch (occupied ch (opened_row id source)) _ (opening ch (opened_row id source)) (changing ch _ _))

  messages-keeps : (ch : Channels) (s : List ℕ) → f (messages_taken ch s).after ≡ f ch
  unfolding messages_taken
  messages-keeps ch s = unless-keeps f (messages_number ch.state s) ch (out_of 0 0 (affected ch s)) (affecting ch s)

  data-keeps : (w : World) (clock : ℕ) (s entries : List ℕ) (c timestamp start n : ℕ) → of-world (data_taken w clock s entries c timestamp start n).after ≡ of-world w
  unfolding data_taken data_by
  data-keeps w clock s entries c timestamp start n =
      unless-keeps of-world (messages_number w.channels.state s) w _
      (at-keeps _ of-world (store_out w s entries c start n).answer w _ (replying (affected w.channels s) _ ∙ affecting w.channels s))

  layout-keeps : (w : World) (clock id : ℕ) (s : List ℕ) (l : Layout) → of-world (by_layout w clock id s l).after ≡ of-world w
  unfolding by_layout
  layout-keeps w clock id s (Fault n) = refl
  layout-keeps w clock id s (HandshakeAlone source o) = handshake-keeps w.channels id s source o
  layout-keeps w clock id s (Messages k) = messages-keeps w.channels s
  layout-keeps w clock id s (MessagesAndData c timestamp start n k) = data-keeps w clock s (layout_in w.channels.state s).entries c timestamp start n

  pub take-keeps : (w : World) (clock id : ℕ) (s : List ℕ) → f (take_spec w clock id s).after.channels ≡ f w.channels
  unfolding take_spec
  take-keeps w clock id s = unless-keeps of-world (own_rooms_answer w) w _ (layout-keeps w clock id s (layout_in w.channels.state s).layout)
