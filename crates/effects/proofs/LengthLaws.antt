-- Messages leave the rooms for what the peers have and want as long as they are. Assumes nothing.
use Prim.Native.Nat.{ℕ, ◌+◌}
use mathlib.Core.Path.{◌≡◌, refl, ◌∙◌}
use mathlib.Core.List.{List, [], ◌∷◌}
use lib.ListN.{length}
use Rattle.bits.proofs.Promise.{length-set_range, length-clear_range}
use Rattle.wire.specs.declared.message.Message.{Message}
use Rattle.wire.specs.declared.message.Message.TheVariants.{Handshake, Data, Ack, Have, Integrity, Request, Cancel, Choke, Unchoke, Empty}
use Rattle.writer.proofs.Promise.{Item}
use Rattle.effects.specs.Effects.{Peer, inside, effect, effects}

-- Rooms as long as before.
pub record SameLengths (m n : Peer) : Type 0 where
  pub has-long : length n.has ≡ length m.has
  pub wants-long : length n.wants ≡ length m.wants

same : (m : Peer) → SameLengths m m
same m = record { has-long = refl; wants-long = refl }

effect_lengths : (N b : ℕ) (i : Message) (m : Peer) → SameLengths m (effect N b i m)
unfolding effect
effect_lengths N b (Handshake a o) m = same m
effect_lengths N b (Data f l x p n) m = same m
effect_lengths N b (Ack f l d) m = record { has-long = length-set_range m.has (b + f) (b + inside N l); wants-long = length-clear_range m.wants (b + f) (b + inside N l) }
effect_lengths N b (Have f l) m = record { has-long = length-set_range m.has (b + f) (b + inside N l); wants-long = length-clear_range m.wants (b + f) (b + inside N l) }
effect_lengths N b (Integrity f l h) m = same m
effect_lengths N b (Request f l) m = record { has-long = refl; wants-long = length-set_range m.wants (b + f) (b + inside N l) }
effect_lengths N b (Cancel f l) m = record { has-long = refl; wants-long = length-clear_range m.wants (b + f) (b + inside N l) }
effect_lengths N b Choke m = record { has-long = refl; wants-long = refl }
effect_lengths N b Unchoke m = record { has-long = refl; wants-long = refl }
effect_lengths N b (Empty k) m = same m

pub effects_lengths : (N b : ℕ) (is : List Item) (m : Peer) → SameLengths m (effects N b is m)
unfolding effects
effects_lengths N b [] m = same m
effects_lengths N b (i ∷ is) m =
    let p = effect_lengths N b i.message m in
    let q = effects_lengths N b is (effect N b i.message m) in
    record { has-long = q.has-long ∙ p.has-long; wants-long = q.wants-long ∙ p.wants-long }
