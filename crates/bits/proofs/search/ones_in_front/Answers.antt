use native.Mathlib.Omega.{arith}
use Rattle.bits.proofs.BlockLaws.{blocks_front, front_is}
use Rattle.bits.proofs.search.ones_in_front.Goals as goal

pub returns : goal.returns
returns c = front_is c.args.ws.now c.blocks_in_front-n.result c.words_in_front.result c.blocks_in_front-n.ensures c.words_in_front.ensures

pub overflow_mul-n : goal.overflow_mul-n
overflow_mul-n c = omega (arith, (blocks_front c.args.ws.now _ c.blocks_in_front-n.ensures).0)

pub offset_bounds-ws-n : goal.offset_bounds-ws-n
offset_bounds-ws-n c = omega (arith, (blocks_front c.args.ws.now _ c.blocks_in_front-n.ensures).0)

pub slice_bounds-words_in_front-count : goal.slice_bounds-words_in_front-count
slice_bounds-words_in_front-count c = omega (arith, (blocks_front c.args.ws.now _ c.blocks_in_front-n.ensures).0)

pub slice_bounds-words_in_front-start : goal.slice_bounds-words_in_front-start
slice_bounds-words_in_front-start c = omega (arith, (blocks_front c.args.ws.now _ c.blocks_in_front-n.ensures).0)

pub overflow_add-result : goal.overflow_add-result
overflow_add-result c = omega (arith, (front_is c.args.ws.now c.blocks_in_front-n.result c.words_in_front.result c.blocks_in_front-n.ensures c.words_in_front.ensures).fits)
