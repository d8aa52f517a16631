use mathlib.Core.Path.{◌≡◌}
use Prim.Native.Nat.{◌-◌}
use lib.ListN.{length}
use Rattle.writer.proofs.Promise.{read_from, read_all}
use Rattle.effects.specs.Effects.{effects}
use Rattle.effects.specs.Steps.{peer_in, Kept}
use Rattle.effects.proofs.apply.Given as goal

abbrev pub invariant-loop-turn : goal.invariant-loop-turn
invariant-loop-turn l = record {
  kept : Kept l.initial.channel l.channel;
  left : effects l.n l.base (read_from l.format (length l.datagram - l._turn) l.datagram l.at) (peer_in l.channel) ≡ effects l.n l.base (read_all l.format l.datagram) (peer_in l.initial.channel);
}
