use Rattle.std.proofs.Common.{suc, arith}
use Rattle.tree.specs.Pack.{levels}
use Rattle.tree.specs.Peaks.{sent}
use Rattle.tree.proofs.Below.{sent_below}
use Rattle.tree.proofs.SentLaws.{sent_is}
use Rattle.tree.proofs.StepLaws.{option-short, sent-short, sent-none, loop-begin, loop-few, loop-end, sent-turn}
use Rattle.tree.proofs.peaks.sent.Goals as goal

pub loop-h-init : goal.loop-h-init
loop-h-init c = loop-begin (sent_below c.args.n c.args.c) _ _ _ c.levels-h.ensures.0

pub put-k-requires : goal.put-k-requires
put-k-requires c = omega (arith, loop-few (sent_below c.args.n c.args.c) _ _ _ _ c.loop-h.h c.loop-h.invariant, sent-short c.args.n c.args.c (suc (levels c.args.n)))

pub put-k-requires-in-loop-h : goal.put-k-requires-in-loop-h
put-k-requires-in-loop-h c =
    omega (arith, loop-few (sent_below c.args.n c.args.c) _ _ _ _ c.loop-h.h c.loop-h.invariant, sent-short c.args.n c.args.c (suc (levels c.args.n)), option-short c.sent_sibling.result)

pub loop-h-preserved : goal.loop-h-preserved
loop-h-preserved c = sent-turn c.args.n c.args.c _ _ c.loop-h.room c.loop-h.k c.loop-h.h (omega arith) c.loop-h.invariant c.sent_sibling.ensures c.sent_peak.ensures c.put-k.ensures c.put-k-in-loop-h.ensures

pub returns : goal.returns
returns c = loop-end (sent_below c.args.n c.args.c) _ _ _ _ c.loop-h.h (sent c.args.n c.args.c) (sent-none c.args.n c.args.c) (sent_is c.args.n c.args.c) (omega arith) c.loop-h.invariant
