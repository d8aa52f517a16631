use Rattle.std.proofs.Common.{◌≡◌, length, sym, arith, length-take-le, rules}
use Rattle.hash.proofs.MessageLaws.{pad_law}
use Rattle.hash.proofs.message.pad.Goals as goal

pub slice_bounds-blocks-end : goal.slice_bounds-blocks-end
slice_bounds-blocks-end c = let l : length c.with_length-b.result ≡ 128 = search rules in sym (length-take-le _ _ (omega (arith, c.requires)))

pub returns : goal.returns
returns c = let l : length c.with_length-b.result ≡ 128 = search rules in pad_law _ c.args.tail.now c.args.n c.requires l c.marked.ensures c.with_length-b.ensures c.blocks-2.ensures
