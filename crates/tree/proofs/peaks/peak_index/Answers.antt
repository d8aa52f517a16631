use Rattle.std.proofs.Common.{ℕ, ◌*◌, ◌/◌, ◌^◌, ap₂, arith}
use Rattle.tree.proofs.NodeLaws.{above_twice}
use Rattle.tree.proofs.peaks.peak_index.Goals as goal

pub returns : goal.returns
returns c = omega (arith, above_twice c.args.h c.args.n, ap₂ (λ (n w : ℕ). n / w / 2 * 2 ^ c.args.h) c.from.ensures c.pow2.ensures.0)
