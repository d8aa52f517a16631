use Rattle.std.proofs.Common.{◌≡◌, [], length, take, refl, arith, rules, length-take-le, get_or-take}
use Rattle.hash.proofs.BlockLaws.{advance-turn, advance_end}
use Rattle.hash.proofs.block.compress_words.Goals as goal

pub loop-row-init : goal.loop-row-init
loop-row-init c = (refl, refl)

pub loop-row-preserved : goal.loop-row-preserved
loop-row-preserved c = let l : length (take 3 c.args.k.now) ≡ 3 = length-take-le 3 c.args.k.now (omega arith) in
    advance-turn c.args.v.words c.args.w c.loop-row.row-index c.args.k.now (omega arith) c.requires c.loop-row.invariant.0 c.loop-row.invariant.1 (rw (get_or-take 3 c.args.k.now c.loop-row.row-index [] (omega arith)) at c.advance-s.ensures)

pub returns : goal.returns
returns c = let l : length (take 3 c.args.k.now) ≡ 3 = length-take-le 3 c.args.k.now (omega arith) in
    advance_end c.args.v.words c.args.w c.loop-row.row-index c.args.k.now (search rules) (omega arith) (omega arith) c.requires c.loop-row.invariant.0 c.loop-row.invariant.1 c.advance.ensures.variables c.sums.ensures
