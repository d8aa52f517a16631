-- Nothing of the papers: one turn of the pass over a datagram's messages. Assumes nothing.
use Rattle.std.specs.Prelude.{ℕ, ◌≡◌, Option, Some, None}
use Rattle.wire.specs.declared.message.Step.{Step}
use Rattle.wire.specs.declared.message.Step.TheVariants.{Read, End, Refused}
use Rattle.effects.specs.declared.Channel.{Channel}
use Rattle.effects.specs.Effects.{Peer, peer_of, effect}

-- What a channel says of its peer.
abbrev pub peer_in : Channel → Peer
peer_in c = peer_of c.has.now c.wants.now c.choked

-- The same rooms of the same pack.
pub record Kept (c d : Channel) : Type 0 where
  pub has : d.has.ghost_name ≡ c.has.ghost_name
  pub wants : d.wants.ghost_name ≡ c.wants.ghost_name
  pub n : d.n ≡ c.n
  pub base : d.base ≡ c.base

-- The peer after a turn, and where the next message stands, if any.
pub record Turned : Type 0 where
  pub peer : Peer
  pub next : Option ℕ

abbrev pub turn_of : Peer → Option ℕ → Turned
turn_of m next = record { peer = m; next = next }

unfoldable pub turned : (N b : ℕ) → Peer → Step → Turned
turned N b m (Read message next) = turn_of (effect N b message m) (Some next.at)
turned N b m End = turn_of m None
turned N b m Refused = turn_of m None
