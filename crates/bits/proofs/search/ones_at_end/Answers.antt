use native.Mathlib.Omega.{arith}
use Rattle.bits.proofs.BlockLaws.{blocks_end, end_is}
use Rattle.bits.proofs.search.ones_at_end.Goals as goal

pub returns : goal.returns
returns c = end_is c.args.ws.now c.blocks_at_end-n.result c.words_at_end.result c.blocks_at_end-n.ensures c.words_at_end.ensures

pub overflow_mul-n : goal.overflow_mul-n
overflow_mul-n c = omega (arith, (blocks_end c.args.ws.now _ c.blocks_at_end-n.ensures).0)

pub slice_bounds-words_at_end-count : goal.slice_bounds-words_at_end-count
slice_bounds-words_at_end-count c = omega (arith, (blocks_end c.args.ws.now _ c.blocks_at_end-n.ensures).0)

pub overflow_add-result : goal.overflow_add-result
overflow_add-result c = omega (arith, (end_is c.args.ws.now c.blocks_at_end-n.result c.words_at_end.result c.blocks_at_end-n.ensures c.words_at_end.ensures).fits)
