use Rattle.std.proofs.Common.{◌≡◌, ℕ, Bool, suc, ◌-◌}
use Rattle.tree.specs.Node.{above}
use Rattle.tree.specs.Pack.{levels, least_from}
use Rattle.verdict.specs.Steps.{room_counts}
use Rattle.verdict.proofs.verdicts.reach.Given as goal

abbrev pub invariant-loop-h : goal.invariant-loop-h
invariant-loop-h l =
    let f : ℕ → Bool = λ k. room_counts l.place.opened l.place.n l.trusted k (above k l.place.c) in
    least_from f (l.end - l.h) l.h ≡ least_from f (suc (levels l.place.n)) 0
