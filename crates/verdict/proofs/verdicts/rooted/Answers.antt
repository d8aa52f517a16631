use Rattle.tree.proofs.PackLaws.{levels-holds}
use Rattle.verdict.proofs.verdicts.rooted.Goals as goal

pub root_of_peaks-requires : goal.root_of_peaks-requires
root_of_peaks-requires c = (c.levels-top.ensures.1, rw c.levels-top.ensures.0 (levels-holds c.args.place.n))
