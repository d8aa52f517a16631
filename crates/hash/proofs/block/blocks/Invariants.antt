use Rattle.std.proofs.Common.{◌≡◌}
use Rattle.hash.specs.Message.{after}
use Rattle.hash.proofs.block.blocks.Given as goal

abbrev pub invariant-loop-i : goal.invariant-loop-i
invariant-loop-i l = l.u.words ≡ after l.initial.u.words l.i l.b
