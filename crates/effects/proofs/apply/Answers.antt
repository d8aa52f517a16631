use Prim.Native.Nat.{◌+◌, ◌-◌}
use native.Mathlib.Omega.{arith}
use mathlib.Core.Path.{◌≡◌, sym, ◌∙◌}
use lib.ListN.{length}
use borrow.Author.Rules.{rules}
use Rattle.writer.proofs.Promise.{then_same}
use Rattle.effects.specs.Steps.{peer_in}
use Rattle.effects.proofs.EffectLaws.{turn-effects, over_effects, effects-none}
use Rattle.effects.proofs.apply.Goals as goal

pub returns-in-None : goal.returns-in-None
returns-in-None c =
    then_same
    (over_effects c.args.format c.args.n c.args.base c.args.datagram.now c.loop-turn.at (length c.args.datagram.now - c.loop-turn._turn) (peer_in c.loop-turn.channel) (omega arith) (rw (c.loop-turn.invariant.kept.n, c.loop-turn.invariant.kept.base) at c.in-None.ensures.effect) ∙ c.loop-turn.invariant.left)
    (search rules)

pub loop-turn-preserved : goal.loop-turn-preserved
loop-turn-preserved c =
    let e : length c.args.datagram.now - (c.loop-turn._turn + 1) ≡ length c.args.datagram.now - c.loop-turn._turn - 1 = omega arith in
    record {
      kept = search rules;
      left = rw e (turn-effects c.args.format c.args.n c.args.base c.args.datagram.now c.loop-turn.at (length c.args.datagram.now - c.loop-turn._turn) (peer_in c.loop-turn.channel) (omega arith) (rw (c.loop-turn.invariant.kept.n, c.loop-turn.invariant.kept.base) at c.in-Some.ensures.effect) ∙ c.loop-turn.invariant.left);
    }

pub returns : goal.returns
returns c =
    then_same
    (sym (effects-none c.args.format c.args.n c.args.base c.args.datagram.now c.loop-turn.at (length c.args.datagram.now - c.loop-turn._turn) (peer_in c.loop-turn.channel) (omega arith)) ∙ c.loop-turn.invariant.left)
    (search rules)
