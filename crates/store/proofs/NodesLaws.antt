-- What is put into the nodes' rooms, turn by turn. Assumes nothing.
use mathlib.Core.Path.{◌≡◌, refl, ap, ◌∙◌}
use mathlib.Core.List.{List}
use Prim.Native.Nat.{ℕ, suc, ◌+◌, ◌*◌, ◌/◌, ◌^◌}
use native.Mathlib.Numerals.{add-one}
use Rattle.tree.specs.Bin.{bin}
use Rattle.tree.specs.Node.{sibling_from, above}
use Rattle.tree.specs.Steps.{peak_bit}
use Rattle.verdict.specs.Room.{put_hash}
use Rattle.store.specs.Nodes.{Puts}
use Rattle.store.specs.Steps.{put_if, put_peaks, put_path, put_level, put_levels}
use Rattle.store.specs.Storing.{Put, mark}
use Rattle.store.specs.declared.nodes.Nodes.{Nodes}

-- one after the other
pub puts_then : {f g : Put → List ℕ → List ℕ} (h : Put → List ℕ → List ℕ) {r s t : Nodes} → Puts g s t → Puts f r s
    → ((put : Put) (l : List ℕ) → g put (f put l) ≡ h put l) → Puts h r t
puts_then {f} {g} h {r} {s} {t} p q e = record {
  hashes = p.hashes ∙ ap (g put_hash) q.hashes ∙ e put_hash r.hashes.now;
  trusted = p.trusted ∙ ap (g mark) q.trusted ∙ e mark r.trusted.now;
}

module _ (got : ℕ → ℕ → List ℕ) (put : Put) (l : List ℕ) where
  pub peaks-more : (N h : ℕ) → put_if put (peak_bit N h) (put_peaks put got N h l) (bin h (above (suc h) N)) (got h (above (suc h) N))
      ≡ put_peaks put got N (h + 1) l
  unfolding put_peaks
  peaks-more N h = rw (add-one h) refl

  pub path-more : (own : ℕ → List ℕ) (c h : ℕ) {v : List ℕ} → v ≡ own h
      → put (put (put_path put own got c h l) (bin h (above h c)) v) (bin h (sibling_from h c)) (got h (sibling_from h c)) ≡ put_path put own got c (h + 1) l
  unfolding put_path
  path-more own c h e = rw (add-one h, e) refl

  pub level-more : (h k : ℕ) → put (put_level put got h k l) (bin h (k * 2 ^ h)) (got h (k * 2 ^ h)) ≡ put_level put got h (k + 1) l
  unfolding put_level
  level-more h k = rw (add-one k) refl

  pub levels-more : (N h : ℕ) → put_level put got h (N / 2 ^ h) (put_levels put got N h l) ≡ put_levels put got N (h + 1) l
  unfolding put_levels
  levels-more N h = rw (add-one h) refl
