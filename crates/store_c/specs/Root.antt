-- A root behind a slice of words: eight, or the call is refused. Assumes nothing.
use Rattle.std.specs.Prelude.{ℕ, zero, suc, List, eqb, length}
use Rattle.base.specs.Pick.{pick}
use Rattle.base.specs.Out.{Out, out_of}
use Rattle.verdict.specs.Room.{put_hash}
use Rattle.store.proofs.Promise.{Rooms}

-- Before all else 11 where the slice has another length.
unfoldable pub rooted : List ℕ → Rooms → Out Rooms → Out Rooms
rooted root w out = pick (eqb (length root) 8) out (out_of 11 0 w)

-- The slice after a building that gave this answer and found this root: a refused one leaves it as it was.
abbrev pub root_put : ℕ → List ℕ → List ℕ → List ℕ
root_put zero root found = put_hash root 0 found
root_put (suc n) root found = root
