-- The chunks of a datagram's messages, and what the messages change (01, "Datagrams", the effects; number 7). Assumes nothing.
use Rattle.std.specs.Prelude.{ℕ, ◌+◌, List, [], ◌∷◌, Bool, true, false, leb, ltb}
use Rattle.bits.proofs.Promise.{set_range, clear_range}
use Rattle.base.specs.Pick.{pick}
use Rattle.wire.specs.declared.message.Message.{Message}
use Rattle.wire.specs.declared.message.Message.TheVariants.{Handshake, Data, Ack, Have, Integrity, Request, Cancel, Choke, Unchoke, Empty}
use Rattle.format.specs.declared.Format.{Format}
use Rattle.wire.proofs.Promise.{reach}
use Rattle.writer.proofs.Promise.{Item}

-- ---- 7: chunks past N-1

-- Whether a message's chunks are past N-1. By its layout first is not above last, so of a range the last chunk decides.
-- Under bins "wholly past is 7, and so is any INTEGRITY that reaches past" (02, No. 1); DATA has one chunk.
unfoldable pub past : Format → ℕ → Message → Bool
past F N (Handshake a o) = false
past F N (Data f l x b n) = leb N l
past F N (Ack f l d) = leb N (reach F f l)
past F N (Have f l) = leb N (reach F f l)
past F N (Integrity f l h) = leb N l
past F N (Request f l) = leb N (reach F f l)
past F N (Cancel f l) = leb N (reach F f l)
past F N Choke = false
past F N Unchoke = false
past F N (Empty k) = false

-- Whether one of a datagram's messages has such chunks.
unfoldable pub any_past : Format → ℕ → List Item → Bool
any_past F N [] = false
any_past F N (i ∷ is) = pick (past F N i.message) true (any_past F N is)

-- ---- the effects

-- The rooms for what peers have and want, and the choke mark of the one channel that a datagram goes to.
pub record Peer : Type 0 where
  pub has : List ℕ
  pub wants : List ℕ
  pub choked : Bool

abbrev pub peer_of : List ℕ → List ℕ → Bool → Peer
peer_of has wants choked = record { has = has; wants = wants; choked = choked }

-- HAVE and ACK: the peer has the chunks, and wants them no more.
abbrev pub have : (from upto : ℕ) → Peer → Peer
have from upto m = peer_of (set_range m.has from upto) (clear_range m.wants from upto) m.choked

-- The end of chunks up to l of N: "its part inside the pack" (02, No. 1). Ranges past N-1 were refused with 7.
abbrev pub inside : (N l : ℕ) → ℕ
inside N l = pick (ltb l N) (l + 1) N

-- A message on the channel whose bits begin at b in both rooms, of a pack of N chunks: "HAVE and ACK set the peer's has-bits and
-- clear its wants ..; REQUEST sets wants; CANCEL clears them; CHOKE sets a mark, UNCHOKE clears it". INTEGRITY and DATA change
-- none of these, nor does a message over no chunk.
unfoldable pub effect : (N b : ℕ) → Message → Peer → Peer
effect N b (Handshake a o) m = m
effect N b (Data f l x p n) m = m
effect N b (Ack f l d) m = have (b + f) (b + inside N l) m
effect N b (Have f l) m = have (b + f) (b + inside N l) m
effect N b (Integrity f l h) m = m
effect N b (Request f l) m = peer_of m.has (set_range m.wants (b + f) (b + inside N l)) m.choked
effect N b (Cancel f l) m = peer_of m.has (clear_range m.wants (b + f) (b + inside N l)) m.choked
effect N b Choke m = peer_of m.has m.wants true
effect N b Unchoke m = peer_of m.has m.wants false
effect N b (Empty k) m = m

-- The messages of a datagram, "in datagram order".
unfoldable pub effects : (N b : ℕ) → List Item → Peer → Peer
effects N b [] m = m
effects N b (i ∷ is) m = effects N b is (effect N b i.message m)
