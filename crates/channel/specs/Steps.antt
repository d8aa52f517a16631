-- Nothing of the papers: what taking in a datagram gives before its messages are looked at. Assumes nothing.
use Rattle.std.specs.Prelude.{ℕ, Bool, true, false, List, Result, Ok, Err}
use Rattle.base.specs.Refusal.{number, node}
use Rattle.base.specs.declared.Refusal.{Refusal}
use Rattle.wire.proofs.Promise.{no_survey, survey_all}
use Rattle.wire.specs.declared.survey.Survey.{Survey}
use Rattle.wire.proofs.Promise.{Layout, Fault, HandshakeAlone, Messages, MessagesAndData}
use Rattle.channel.specs.declared.taking.Ruling.{Ruling}
use Rattle.channel.specs.declared.taking.Ruling.TheVariants.{Taken, MessagesLeft}
use Rattle.channel.specs.World.{World, Out, out_at, out_of, order_format}
use Rattle.channel.specs.Take.{by_layout}

-- A call's outcome, or that there are messages alone, nothing done yet, and their survey.
pub record Ruled : Type 0 where
  pub out : Out World
  pub alone : Bool
  pub survey : Survey

-- One that is settled, done or refused, and one that leaves its messages.
abbrev pub settled : Out World → Ruled
settled out = record { out = out; alone = false; survey = no_survey }

abbrev pub left : World → Survey → Ruled
left w v = record { out = out_of 0 0 w; alone = true; survey = v }

-- What a ruling says, with these rooms afterwards.
abbrev pub ruled_of : Result Ruling Refusal → World → Ruled
ruled_of (Ok (Taken n)) w = settled (out_of 0 n w)
ruled_of (Ok (MessagesLeft v)) w = left w v
ruled_of (Err e) w = settled (out_at (number e) 0 (node e) w)

-- By its layout: messages without DATA are left to be taken.
abbrev pub ruled_by : World → (clock id : ℕ) (s : List ℕ) → Layout → Ruled
ruled_by w clock id s (Fault n) = settled (by_layout w clock id s (Fault n))
ruled_by w clock id s (HandshakeAlone a o) = settled (by_layout w clock id s (HandshakeAlone a o))
ruled_by w clock id s (Messages k) = left w (survey_all (order_format w.channels.state) s)
ruled_by w clock id s (MessagesAndData c x b n k) = settled (by_layout w clock id s (MessagesAndData c x b n k))
