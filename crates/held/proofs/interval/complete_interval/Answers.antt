use native.Mathlib.Omega.{arith}
use Rattle.held.proofs.SearchLaws.{run-around-c, node_in, ranges-are, bins-are}
use Rattle.held.proofs.interval.complete_interval.Goals as goal

pub height_within-h-requires : goal.height_within-h-requires
height_within-h-requires c = run-around-c c.args.map.now c.args.n c.args.c c.run_around-run.ensures c.levels.ensures.1

pub overflow_add-result : goal.overflow_add-result
overflow_add-result c = omega (
  arith,
  node_in c.args.map.now c.args.n c.args.c c.run_around-run.ensures c.levels.ensures.0
      c.height_within-h.ensures.0 c.above-first.ensures.0 c.pow2.ensures.0,
)

pub overflow_cast-result-in-Bins : goal.overflow_cast-result-in-Bins
overflow_cast-result-in-Bins c = record {
  fits = omega (
    arith,
    node_in c.args.map.now c.args.n c.args.c c.run_around-run.ensures c.levels.ensures.0
        c.height_within-h.ensures.0 c.above-first.ensures.0 c.pow2.ensures.0,
  );
}

pub returns-in-Ranges : goal.returns-in-Ranges
returns-in-Ranges c = ranges-are c.args.map.now c.args.n c.args.c c.run_around-run.ensures c.args.format c.in-Ranges.is

pub returns-in-Bins : goal.returns-in-Bins
returns-in-Bins c = bins-are c.args.map.now c.args.n c.args.c c.run_around-run.ensures c.levels.ensures.0
    c.height_within-h.ensures.0 c.above-first.ensures.0 c.pow2.ensures.0 c.args.format
    c.in-Bins.is
