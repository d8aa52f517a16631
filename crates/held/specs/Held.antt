-- Asking what is held: the count, and whole or not (01, "Entry points"). Assumes nothing.
use Rattle.std.specs.Prelude.{ℕ, zero, suc, Bool, false, List, ltb, eqb, length}
use Rattle.std.specs.Prelude.{Result, Ok, Err}
use Rattle.base.specs.Pick.{pick}
use Rattle.base.specs.Refusal.{number}
use Rattle.base.specs.declared.Refusal.{Refusal}
use Rattle.bits.proofs.Promise.{count_bits}
use Rattle.store.proofs.Promise.{earlier, length_answer, map_words, count_of}
use Rattle.held.specs.declared.Held.{Held}

-- The number given back, how many chunks are held, and whether that is all of them.
pub record Asked : Type 0 where
  pub answer : ℕ
  pub held : ℕ
  pub whole : Bool

abbrev pub asked_of : ℕ → ℕ → Bool → Asked
asked_of n held whole = record { answer = n; held = held; whole = whole }

-- What the result of asking says: a refused call counts nothing.
abbrev pub asked_by : Result Held Refusal → Asked
asked_by (Ok h) = asked_of 0 h.count h.whole
asked_by (Err e) = asked_of (number e) 0 false

-- 12 for the order's length, then 11 for the map, the one room that it is lent.
unfoldable pub ask_number : ℕ → ℕ → ℕ → ℕ
ask_number L N m = earlier (length_answer L) (pick (ltb m (map_words N)) 11 0)

-- A refused call counts nothing.
abbrev pub counted_unless : ℕ → ℕ → ℕ → Asked
counted_unless zero held N = asked_of 0 held (eqb held N)
counted_unless (suc n) held N = asked_of (suc n) 0 false

-- Of a pack of L bytes: the held count is the number of set map bits of its N chunks; it is whole exactly when all
-- are.
unfoldable pub held_spec : ℕ → List ℕ → Asked
held_spec L map = counted_unless (ask_number L (count_of L) (length map)) (count_bits map (count_of L)) (count_of L)
