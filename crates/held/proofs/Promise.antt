-- What the crates above know of this one: the names passed on here, what is counted where nothing is refused, which
-- numbers asking can give, and which interval an ACK names. Assumes nothing.
use Prim.Native.Nat.{ℕ, ◌*◌, ◌≤◌, ◌<◌}
use mathlib.Core.Path.{◌≡◌}
use mathlib.Core.Bool.{true}
use mathlib.Core.List.{List, [], ◌∷◌}
use lib.Dec.{eqb}
use lib.ListN.{length}
use Rattle.base.specs.Among.{OneOf}
use Rattle.bits.proofs.Promise.{bit_at, count_bits, row_words}
use Rattle.format.specs.declared.Format.{Format}
use Rattle.store.proofs.Promise.{length_answer, count_of}
use Rattle.wire.proofs.Promise.{empty_bin}
use Rattle.held.proofs.AskLaws as laws
use Rattle.held.proofs.NumberLaws as numbers
use Rattle.held.proofs.IntervalLaws as intervals
pub use Rattle.held.specs.Held.{Asked, asked_of, asked_by, held_spec}
pub use Rattle.held.specs.Interval.{Complete, Biggest, complete_interval}

-- Of a length within the limit, and a map that is large enough.
pub held-counted : (L : ℕ) (map : List ℕ) → length_answer L ≡ 0 → row_words (count_of L) ≤ length map
    → held_spec L map ≡ asked_of 0 (count_bits map (count_of L)) (eqb (count_bits map (count_of L)) (count_of L))
held-counted = laws.held-counted

-- The numbers that it can give.
pub ask_numbered : (L : ℕ) (map : List ℕ) → OneOf (0 ∷ 11 ∷ 12 ∷ []) (held_spec L map).answer
ask_numbered = numbers.ask-one

-- 02, No. 2: "both that the interval is held and that no bigger one covering the chunk is", for every map and held chunk,
-- and every N below 2 ^ 31, since bins have 32 bits.
pub complete-biggest : (F : Format) (map : List ℕ) (N c : ℕ) → c < N → bit_at map c ≡ true → 2 * N ≤ empty_bin
    → Biggest F map N c (complete_interval F map N c)
complete-biggest = intervals.interval-biggest
