-- What is put into the nodes' two rooms. Assumes nothing.
use Rattle.std.specs.Prelude.{◌≡◌, List, ℕ, length}
use Rattle.verdict.specs.Room.{put_hash}
use Rattle.store.specs.Storing.{Put, mark}
use Rattle.store.specs.declared.nodes.Nodes.{Nodes}

-- The same rooms are lent.
pub record Kept (r s : Nodes) : Type 0 where
  pub hashes : s.hashes.ghost_name ≡ r.hashes.ghost_name
  pub trusted : s.trusted.ghost_name ≡ r.trusted.ghost_name
  pub hashes_size : length s.hashes.now ≡ length r.hashes.now
  pub trusted_size : length s.trusted.now ≡ length r.trusted.now

-- The same is done to both: f puts nodes' hashes, which are written into the one and marked in the other.
pub record Puts (f : Put → List ℕ → List ℕ) (r s : Nodes) : Type 0 where
  pub hashes : s.hashes.now ≡ f put_hash r.hashes.now
  pub trusted : s.trusted.now ≡ f mark r.trusted.now
