-- Bytes of the source. Assumes nothing.
use Prim.Native.Nat.{ℕ, ◌+◌, ◌-◌, ◌≤◌}
use native.Mathlib.Omega.{arith}
use mathlib.Core.Path.{◌≡◌}
use mathlib.Core.List.{List}
use lib.ListN.{length, take, drop, length-drop}
use lib.Seq.{length-take-le}
use Rattle.writer.specs.Message.{within}

-- ---- bytes of the source

module _ (s : List ℕ) (b n : ℕ) where
  -- n bytes that lie in s are n many
  pub within-length : b + n ≤ length s → length (within s b n) ≡ n
  within-length h = length-take-le n (drop b s) (omega (arith, length-drop b s))

  -- the same bytes as the code has them, from b up to b + n
  pub within-part : take (b + n - b) (drop b s) ≡ within s b n
  within-part = let e : b + n - b ≡ n = omega arith in rw e
