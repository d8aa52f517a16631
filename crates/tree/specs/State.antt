-- What a store holds, node by node and chunk by chunk, of N chunks (01, "What a store works under" and "Nodes and the
-- tree"). Assumes nothing.
use Rattle.std.specs.Prelude.{◌≡◌, ℕ, suc, ◌+◌, ◌^◌, Bool, true, false, List, nat_le, nat_lt}
use Rattle.base.specs.Pick.{pick}
use Rattle.tree.specs.Node.{above}

-- The hash of each node and whether it is trusted; whether each chunk is in the map, and its bytes.
pub record State : Type 0 where
  pub hash : ℕ → ℕ → List ℕ
  pub trust : ℕ → ℕ → Bool
  pub in_map : ℕ → Bool
  pub chunk : ℕ → List ℕ

-- (h, a) lies within 0..N-1, and its parent does not: a peak.
abbrev pub is_peak : ℕ → ℕ → ℕ → Bool
is_peak N h a = pick (nat_le (a + 2 ^ h) N) (nat_lt N (above (suc h) a + 2 ^ suc h)) false

-- All peaks are trusted.
abbrev pub AllPeaks : ℕ → State → Type 0
AllPeaks N s = (h a : ℕ) → above h a ≡ a → is_peak N h a ≡ true → s.trust h a ≡ true
