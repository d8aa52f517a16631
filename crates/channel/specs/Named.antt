-- The node that taking in a datagram names (02, No. 3): what it says of the datagram and of the store. Assumes nothing.
use Rattle.std.specs.Prelude.{◌≡◌, ℕ, List, Some}
use Rattle.base.specs.Out.{Named}
use Rattle.wire.proofs.Promise.{MessagesAndData}
use Rattle.writer.proofs.Promise.{within}
use Rattle.store.proofs.Promise.{Integrity, integrity_of}
use Rattle.channel.specs.Take.{layout_in}

-- Datagram s has DATA of a chunk, and P holds of that chunk, its bytes, the hashes that came with it and the node named.
pub record Names (st s : List ℕ) (x : Named) (P : (c : ℕ) (d : List ℕ) (o : Integrity) (b : ℕ) → Type 0) : Type 0 where
  pub chunk : ℕ
  pub timestamp : ℕ
  pub start : ℕ
  pub size : ℕ
  pub count : ℕ
  pub brings : (layout_in st s).layout ≡ MessagesAndData chunk timestamp start size count
  pub node : ℕ
  pub node_named : x ≡ Some node
  pub holds : P chunk (within s start size) (integrity_of (layout_in st s).entries s) node
