use mathlib.Core.Path.{◌≡◌, refl}
use Prim.Native.Nat.{suc, ◌+◌}
use native.Mathlib.Omega.{arith}
use Rattle.std.proofs.Common.{rules}
use Rattle.tree.specs.Pack.{levels}
use Rattle.verdict.specs.Integrity.{integrity_in}
use Rattle.verdict.specs.Steps.{got_by}
use Rattle.store.specs.Steps.{put_peaks}
use Rattle.store.proofs.NodesLaws.{puts_then, peaks-more}
use Rattle.store.proofs.nodes.Nodes.put_peaks.Goals as goal

pub loop-h-init : goal.loop-h-init
unfolding put_peaks
loop-h-init c = record { kept = search rules; puts = record { hashes = refl; trusted = refl } }

pub loop-h-preserved : goal.loop-h-preserved
loop-h-preserved c = record {
  kept = search rules;
  puts = puts_then _ c.put_peak.ensures.puts c.loop-h.invariant.puts (λ put l. peaks-more (got_by (integrity_in c.args.integrity)) put l c.args.n c.loop-h.h);
}

pub returns-2-clause-puts : goal.returns-2-clause-puts
returns-2-clause-puts c = let e : c.loop-h.h + 1 ≡ suc (levels c.args.n) = omega (arith, c.levels-h-end.ensures.0) in
    puts_then _ c.put_peak.ensures.puts c.loop-h.invariant.puts (λ put l. rw (← e) (peaks-more (got_by (integrity_in c.args.integrity)) put l c.args.n c.loop-h.h))
