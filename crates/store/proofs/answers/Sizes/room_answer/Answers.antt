use Rattle.std.proofs.Common.{rules}
use native.Mathlib.Omega.{arith}
use mir.Val.{Fits}
use mir.Syntax.{w32}
use Rattle.tree.proofs.PackLaws.{places_small}
use Rattle.store.specs.Answers.{room_answer}
use Rattle.store.proofs.answers.Sizes.room_answer.Goals as goal

pub overflow_mul-w : goal.overflow_mul-w
overflow_mul-w c = let f : Fits w32 c.chunk_count-n.result = search rules in let g = places_small 32 _ _ c.leaf_places-w.ensures (omega (arith, f.fits)) in search rules

pub overflow_mul-w-then-map_words-self : goal.overflow_mul-w-then-map_words-self
overflow_mul-w-then-map_words-self c = let f : Fits w32 c.chunk_count-n.result = search rules in let g = places_small 32 _ _ c.leaf_places-w.ensures (omega (arith, f.fits)) in search rules

pub returns-then-trusted_words-self : goal.returns-then-trusted_words-self
unfolding room_answer
returns-then-trusted_words-self c = search rules

pub returns : goal.returns
unfolding room_answer
returns c = search rules
