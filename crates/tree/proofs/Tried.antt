-- The values marked ● in 01, "Tried values", as one table, by computation from the definitions. Assumes nothing.
use Rattle.std.proofs.Common.{◌≡◌, ℕ, [], ◌∷◌, map, refl}
use Rattle.tree.specs.Bin.{low_ones, height, first, last}
use Rattle.tree.specs.Node.{Node, num}
use Rattle.tree.specs.Pack.{chunk_size, chunks, size, least_from, levels}
use Rattle.tree.specs.Peaks.{peaks_from, peaks, peak_height, siblings, insert, sort, sent}

-- Node b covers the chunks f..l.
abbrev pub Covers : ℕ → ℕ → ℕ → Type 0
Covers b f l = (first b ≡ f) × (last b ≡ l)

-- The first and the last chunk of a node.
abbrev pub range : Node → ℕ × ℕ
range n = (first (num n), last (num n))

pub record Tried : Type 0 where
  -- "Node 3 covers 0..3"
  pub node3 : Covers 3 0 3
  -- "9 covers 4..5"
  pub node9 : Covers 9 4 5
  -- "12 covers 6"
  pub node12 : Covers 12 6 6
  -- "11 covers 4..7"
  pub node11 : Covers 11 4 7
  -- "N=7 has peaks 3, 9, 12"
  pub peaks7 : map num (peaks 7) ≡ 3 ∷ 9 ∷ 12 ∷ []
  -- "N=8 has 7"
  pub peaks8 : map num (peaks 8) ≡ 7 ∷ []
  -- "N=1 has 0"
  pub peaks1 : map num (peaks 1) ≡ 0 ∷ []
  -- "N=5 has 3, 8"
  pub peaks5 : map num (peaks 5) ≡ 3 ∷ 8 ∷ []
  -- "L=7,162 gives N=7, last chunk 1,018 bytes"
  pub count7162 : (chunks chunk_size 7162 ≡ 7) × (size chunk_size 7162 6 ≡ 1018)
  -- "L=1,024 gives 1"
  pub count1024 : chunks chunk_size 1024 ≡ 1
  -- "1,025 gives 2"
  pub count1025 : chunks chunk_size 1025 ≡ 2
  -- "For N=7, chunk 0 goes out with 0..3, 2..3, 4..5, 1..1, 6..6"
  pub sent7 : map range (sent 7 0) ≡ (0, 3) ∷ (2, 3) ∷ (4, 5) ∷ (1, 1) ∷ (6, 6) ∷ []

pub tried : Tried
unfolding low_ones height first last least_from levels peaks_from peaks peak_height siblings insert sort sent
tried = record {
  node3 = (refl, refl);
  node9 = (refl, refl);
  node12 = (refl, refl);
  node11 = (refl, refl);
  peaks7 = refl;
  peaks8 = refl;
  peaks1 = refl;
  peaks5 = refl;
  count7162 = (refl, refl);
  count1024 = refl;
  count1025 = refl;
  sent7 = refl;
}
