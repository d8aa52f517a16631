use Rattle.tree.proofs.Promise.{places_small}
use mir.Syntax.{w32}
use mir.Val.{Fits}
use native.Mathlib.Omega.{arith}
use borrow.Author.Rules.{rules}
use Rattle.loader.proofs.sizes.ppspp_hash_words.Goals as goal

pub overflow_mul-result : goal.overflow_mul-result
overflow_mul-result c = let f : Fits w32 c.args.n = search rules in
    let g = places_small 32 _ _ c.leaf_places.ensures (omega (arith, f.fits)) in
    search rules
