-- The nodes of a list put into a room, as the code's loops put them. Assumes nothing.
use mathlib.Core.Path.{◌≡◌, refl, sym, ap, ap₂, ◌∙◌}
use mathlib.Core.Bool.{Bool, true, false}
use mathlib.Core.List.{List, [], ◌∷◌, ◌++◌}
use Prim.Native.Nat.{ℕ, zero, suc, ◌*◌, ◌/◌, ◌^◌}
use borrow.Author.Tests.{eq-eqb, ne_eqb}
use lib.Dec.{eqb}
use lib.ListN.{length}
use Rattle.hash.proofs.Promise.{sha256}
use Rattle.base.specs.Pick.{pick}
use Rattle.tree.specs.Bin.{bin}
use Rattle.tree.specs.Node.{Node, num, above, sibling_from}
use Rattle.tree.specs.Pack.{levels, root_node}
use Rattle.tree.specs.Peaks.{peaks}
use Rattle.tree.specs.Steps.{peak_bit, peak_at}
use Rattle.tree.proofs.Below.{peaks_below}
use Rattle.tree.specs.Tree.{root, climb}
use Rattle.tree.proofs.PeakLaws.{peaks_bits}
use Rattle.verdict.specs.Rooms.{count_of}
use Rattle.store.specs.Storing.{Put, put_each, path_nodes, put_all}
use Rattle.store.specs.Building.{tree_of, root_of, level, inside, built_nodes}
use Rattle.store.specs.Steps.{put_peaks, put_path, put_level, put_levels}
use Rattle.store.proofs.WrittenLaws.{own_not_beside}

pub root_is : (s : List ℕ) → root_of s ≡ tree_of s (levels (count_of (length s))) 0
unfolding root_of tree_of root
root_is s = refl

module _ (put : Put) where
  each_append : (f : ℕ → ℕ → List ℕ) (ms ns : List Node) (l : List ℕ) → put_each put f (ms ++ ns) l ≡ put_each put f ms (put_each put f ns l)
  unfolding put_each
  each_append f [] ns l = refl
  each_append f (m ∷ ms) ns l = ap (λ (x : List ℕ). put x (num m) (f m.high m.from)) (each_append f ms ns l)

  -- the peaks, height by height
  peaks-each : (came : ℕ → ℕ → List ℕ) (N k : ℕ) (l : List ℕ) → put_each put came (peaks_below N k) l ≡ put_peaks put came N k l
  unfolding put_each peaks_below put_peaks
  peaks-each came N zero l = refl
  peaks-each came N (suc h) l = go (peak_bit N h) (peaks-each came N h l)
    where
      go : (b : Bool) → put_each put came (peaks_below N h) l ≡ put_peaks put came N h l
          → put_each put came (pick b (peak_at N h ∷ []) [] ++ peaks_below N h) l
          ≡ pick b (put (put_peaks put came N h l) (bin h (above (suc h) N)) (came h (above (suc h) N))) (put_peaks put came N h l)
      go true e = ap (λ (x : List ℕ). put x (bin h (above (suc h) N)) (came h (above (suc h) N))) e
      go false e = e

  -- the path, height by height
  path-each : (own : ℕ → List ℕ) (came : ℕ → ℕ → List ℕ) (c t : ℕ) (l : List ℕ)
      → put_each put (λ h a. pick (eqb a (above h c)) (own h) (came h a)) (path_nodes c t) l ≡ put_path put own came c t l
  unfolding put_each path_nodes put_path
  path-each own came c zero l = refl
  path-each own came c (suc h) l =
      rw (eq-eqb (above h c) (above h c) refl, ne_eqb (sibling_from h c) (above h c) (λ e. own_not_beside h c (sym e)))
      (ap (λ (x : List ℕ). put (put x (bin h (above h c)) (own h)) (bin h (sibling_from h c)) (came h (sibling_from h c))) (path-each own came c h l))

  -- all that storing puts
  pub all-is : (b : Bool) (N c t : ℕ) (d : List ℕ) (came : ℕ → ℕ → List ℕ) (l : List ℕ)
      → put_all put b N c t d came l
      ≡ put_path put (λ h. climb sha256 came (sha256 d) c h) came c t (pick b l (put_peaks put came N (suc (levels N)) l))
  unfolding put_all put_each
  all-is b N c t d came l =
      path-each (λ h. climb sha256 came (sha256 d) c h) came c t (put_each put came (pick b [] (peaks N)) l)
      ∙ ap (put_path put (λ h. climb sha256 came (sha256 d) c h) came c t) (go b)
    where
      go : (x : Bool) → put_each put came (pick x [] (peaks N)) l ≡ pick x l (put_peaks put came N (suc (levels N)) l)
      go true = refl
      go false = ap (λ (ns : List Node). put_each put came ns l) (peaks_bits N) ∙ peaks-each came N (suc (levels N)) l

  -- the nodes inside a pack, level by level
  level-each : (f : ℕ → ℕ → List ℕ) (h k : ℕ) (l : List ℕ) → put_each put f (level h k) l ≡ put_level put f h k l
  unfolding put_each level put_level
  level-each f h zero l = refl
  level-each f h (suc k) l = ap (λ (x : List ℕ). put x (bin h (k * 2 ^ h)) (f h (k * 2 ^ h))) (level-each f h k l)

  inside-each : (f : ℕ → ℕ → List ℕ) (N k : ℕ) (l : List ℕ) → put_each put f (inside N k) l ≡ put_levels put f N k l
  unfolding put_each inside put_levels
  inside-each f N zero l = refl
  inside-each f N (suc h) l =
      each_append f (level h (N / 2 ^ h)) (inside N h) l
      ∙ level-each f h (N / 2 ^ h) (put_each put f (inside N h) l)
      ∙ ap (put_level put f h (N / 2 ^ h)) (inside-each f N h l)

  -- all that building puts
  pub built-each : (s : List ℕ) (l : List ℕ)
      → put_each put (tree_of s) (built_nodes (count_of (length s))) l
      ≡ put (put_levels put (tree_of s) (count_of (length s)) (suc (levels (count_of (length s)))) l) (root_node (count_of (length s))) (root_of s)
  unfolding put_each
  built-each s l =
      ap₂ (λ (x v : List ℕ). put x (root_node (count_of (length s))) v)
      (inside-each (tree_of s) (count_of (length s)) (suc (levels (count_of (length s)))) l) (sym (root_is s))
