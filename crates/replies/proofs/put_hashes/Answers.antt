use mathlib.Core.Path.{◌≡◌}
use Prim.Native.Nat.{◌+◌, ◌-◌}
use native.Mathlib.Omega.{arith}
use Rattle.wire.proofs.Promise.{place_most}
use Rattle.replies.proofs.SendingLaws.{sibling-long, done_none, done-few, done_more, done_all, sibling-put, sibling-small, peak-put, peak-small}
use Rattle.replies.proofs.put_hashes.Goals as goal

pub loop-h-init : goal.loop-h-init
loop-h-init c = done_none _ _ _ c.levels-h.ensures.0

pub put_node-requires : goal.put_node-requires
put_node-requires c = record { free = omega (arith, c.requires, place_most c.loop-h.writer.format, c.loop-h.invariant.puts.size, done-few _ _ _ (c.loop-h.h + 1) c.loop-h.invariant c.requires.n_bound); node_bound = sibling-small _ c.requires.n_bound c.args.c c.loop-h.h c.sent_sibling.ensures }

pub put_node-requires-in-loop-h : goal.put_node-requires-in-loop-h
put_node-requires-in-loop-h c =
    let s = sibling-put _ c.args.n c.args.c c.loop-h.h c.sent_sibling.ensures c.put_node.ensures in
    record { free = omega (arith, c.requires, place_most c.put_node.new.writer.format, c.loop-h.invariant.puts.size, done-few _ _ _ (c.loop-h.h + 1) c.loop-h.invariant c.requires.n_bound, s.at, s.size, sibling-long c.loop-h.writer.format c.args.hashes.now c.args.n c.args.c c.loop-h.h); node_bound = peak-small _ c.requires.n_bound c.loop-h.h c.sent_peak.ensures }

pub loop-h-preserved : goal.loop-h-preserved
loop-h-preserved c =
    let e : c.loop-h.h - 1 + 1 ≡ c.loop-h.h = omega arith in
    rw e (done_more _ _ _ (c.loop-h.h + 1) c.loop-h.invariant (omega arith) (omega arith) (sibling-put _ c.args.n c.args.c c.loop-h.h c.sent_sibling.ensures c.put_node.ensures) (peak-put _ c.args.n c.loop-h.h c.sent_peak.ensures c.put_node-in-loop-h.ensures))

pub returns-2 : goal.returns-2
returns-2 c = done_all _ _ _ c.loop-h.h (done_more _ _ _ (c.loop-h.h + 1) c.loop-h.invariant (omega arith) (omega arith) (sibling-put _ c.args.n c.args.c c.loop-h.h c.sent_sibling.ensures c.put_node.ensures) (peak-put _ c.args.n c.loop-h.h c.sent_peak.ensures c.put_node-in-loop-h.ensures)) (omega arith)
