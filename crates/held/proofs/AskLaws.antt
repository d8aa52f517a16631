-- What is counted in a map that is large enough. Assumes nothing.
use Prim.Native.Nat.{ℕ, ◌≤◌}
use mathlib.Core.Path.{◌≡◌}
use mathlib.Core.List.{List}
use borrow.Author.Tests.{le-ltb}
use lib.Dec.{eqb}
use lib.ListN.{length}
use Rattle.bits.proofs.Promise.{count_bits, row_words}
use Rattle.store.proofs.Promise.{length_answer, count_of}
use Rattle.held.specs.Held.{asked_of, ask_number, held_spec}

pub held-counted : (L : ℕ) (map : List ℕ) → length_answer L ≡ 0 → row_words (count_of L) ≤ length map
    → held_spec L map ≡ asked_of 0 (count_bits map (count_of L)) (eqb (count_bits map (count_of L)) (count_of L))
unfolding held_spec ask_number
held-counted L map e h = rw (e, le-ltb (length map) (row_words (count_of L)) h)
