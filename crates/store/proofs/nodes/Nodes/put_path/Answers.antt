use mathlib.Core.Path.{refl}
use Rattle.std.proofs.Common.{rules}
use Rattle.verdict.specs.Room.{hash_in}
use Rattle.verdict.specs.Integrity.{integrity_in}
use Rattle.verdict.specs.Steps.{got_by}
use Rattle.store.specs.Steps.{put_path}
use Rattle.store.proofs.NodesLaws.{puts_then, path-more}
use Rattle.store.proofs.nodes.Nodes.put_path.Goals as goal

pub loop-h-init : goal.loop-h-init
unfolding put_path
loop-h-init c = record { kept = search rules; puts = record { hashes = refl; trusted = refl } }

pub loop-h-preserved : goal.loop-h-preserved
loop-h-preserved c = let got = got_by (integrity_in c.args.integrity) in record {
  kept = search rules;
  puts = puts_then _ c.put_pair.ensures.puts c.loop-h.invariant.puts
      (λ put l. path-more got put l (hash_in c.args.scratch.now) c.args.c c.loop-h.h (rw c.from.ensures at c.read-own.ensures));
}
