use mathlib.Core.Path.{ap, ◌∙◌}
use mathlib.Core.List.{List}
use Prim.Native.Nat.{ℕ}
use native.Mathlib.Omega.{arith}
use Rattle.bits.proofs.Promise.{set_range}
use Rattle.tree.proofs.PackLaws.{places_small}
use Rattle.store.proofs.building.mark_all.Goals as goal

pub overflow_mul-leaf_places : goal.overflow_mul-leaf_places
overflow_mul-leaf_places c = let g = places_small 32 _ _ c.leaf_places.ensures (omega arith) in omega (arith, g)

pub returns : goal.returns
returns c = (c.set_range.ensures ∙ ap (λ (x : List ℕ). set_range x 0 c.args.n) (rw c.from.ensures at c.clear_row.ensures), rw c.leaf_places.ensures at c.clear_row-2.ensures)
