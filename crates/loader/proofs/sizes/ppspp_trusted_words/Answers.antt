use Rattle.tree.proofs.Promise.{places_small}
use Rattle.bits.proofs.Promise.{row_words}
use mathlib.Core.Path.{ap, ◌∙◌}
use Prim.Native.Nat.{ℕ, ◌*◌}
use mir.Syntax.{w32}
use mir.Val.{Fits}
use native.Mathlib.Omega.{arith}
use borrow.Author.Rules.{rules}
use Rattle.loader.proofs.sizes.ppspp_trusted_words.Goals as goal

pub overflow_mul-leaf_places : goal.overflow_mul-leaf_places
overflow_mul-leaf_places c = let f : Fits w32 c.args.n = search rules in
    let g = places_small 32 _ _ c.leaf_places.ensures (omega (arith, f.fits)) in
    search rules

pub returns : goal.returns
returns c = c.row_words.ensures ∙ ap (λ (w : ℕ). row_words (2 * w)) c.leaf_places.ensures
