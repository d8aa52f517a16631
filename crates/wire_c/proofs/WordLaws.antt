-- A law of words: six at the front. Assumes nothing.
use Prim.Native.Nat.{ℕ, ◌+◌, ◌≤◌}
use native.Mathlib.Omega.{arith}
use mathlib.Core.Path.{◌≡◌, sym, ◌∙◌}
use mathlib.Core.List.{List, ◌++◌}
use lib.ListN.{length, drop}
use lib.Seq.{sets}
use Rattle.std.proofs.lemmas.List.Edits.{sets-eq}

-- six words at the front
pub six_stored : (l w : List ℕ) → length w ≡ 6 → 6 ≤ length l → w ++ drop 6 l ≡ sets l 0 w
six_stored l w h k = let q : 0 + length w ≡ 6 = omega arith in sym (sets-eq w l 0 (omega arith) ∙ rw q)
