use Prim.Native.Nat.{◌+◌, ◌-◌}
use mathlib.Core.Path.{◌≡◌, refl, ap}
use native.Mathlib.Omega.{arith}
use lib.ListN.{length}
use Rattle.std.specs.Prelude.{Ok}
use Rattle.std.proofs.Common.{ControlFlow}
use Rattle.std.proofs.lemmas.Result.{err_from_is_err_and}
use Rattle.wire.specs.declared.pass.Pass as src
use Rattle.wire.specs.declared.pass.Reached.{Reached}
use Rattle.wire.specs.Steps.{turn_said}
use Rattle.wire.proofs.PassLaws.{pass_start, pass_on, pass-over, pass-out}
use Rattle.wire.proofs.pass.pass_behind.Goals as goal

pub loop-init : goal.loop-init
loop-init c = pass_start _ _ _ _ c.requires.fronted c.requires.entry_words_in_bounds

pub take_turn-requires : goal.take_turn-requires
take_turn-requires c = c.loop.invariant.standing

pub returns-in_err-next : goal.returns-in_err-next
returns-in_err-next c =
    let p = err_from_is_err_and c.from_residual.result c.from_residual.ensures.1 in
    rw (p.1, p.2) (pass-over _ _ _ _ _ _ _ _ c.loop.invariant (omega arith) c.in_err-next.ensures refl)

pub returns-in-Break : goal.returns-in-Break
returns-in-Break c = pass-over _ _ _ _ _ _ _ _ c.loop.invariant (omega arith) c.in_ok-next.ensures (ap (λ (x : ControlFlow src.Pass Reached). turn_said (Ok x)) c.in-Break.is)

pub loop-preserved : goal.loop-preserved
loop-preserved c =
    let q : length c.args.datagram.now - (c.loop.counter + 1) ≡ length c.args.datagram.now - c.loop.counter - 1 = omega arith in
    rw q (pass_on _ _ _ _ _ _ _ _ c.loop.invariant (omega arith) c.in_ok-next.ensures (ap (λ (x : ControlFlow src.Pass Reached). turn_said (Ok x)) c.in-Continue.is))

pub returns : goal.returns
returns c = pass-out _ _ _ _ _ _ _ _ c.loop.invariant (omega arith)
