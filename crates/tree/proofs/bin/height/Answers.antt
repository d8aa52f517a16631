use Rattle.std.proofs.Common.{rules}
use Rattle.tree.proofs.BinLaws.{height_wrapped, pow-height}
use Rattle.tree.proofs.bin.height.Goals as goal

pub returns : goal.returns
returns c = let e = height_wrapped 64 c.args.b (search rules) in
    (e, rw e (pow-height c.args.b))
