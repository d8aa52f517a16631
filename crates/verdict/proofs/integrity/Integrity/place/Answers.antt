use Rattle.std.proofs.Common.{◌+◌, ◌≤◌, length, arith}
use Rattle.verdict.proofs.IntegrityLaws.{short, absent, there, past}
use Rattle.verdict.proofs.integrity.Integrity.place.Goals as goal

pub returns-in_err-last : goal.returns-in_err-last
returns-in_err-last c = rw c.from_residual.ensures (short _ c.args.b (omega (arith, c.in_err-last.ensures)))

pub returns-in_err-at : goal.returns-in_err-at
returns-in_err-at c = rw c.from_residual-in_err-at.ensures (absent _ _ c.in_err-at.ensures)

pub returns-then-at-last : goal.returns-then-at-last
returns-then-at-last c = let l : c.in_ok-at.at + 32 ≤ length c.args.self.bytes.now = omega (arith, c.in_ok-last.ensures) in (l, there _ c.args.b _ c.in_ok-at.ensures l)

pub returns-else-at-last : goal.returns-else-at-last
returns-else-at-last c = past _ c.args.b _ c.in_ok-at.ensures (omega (arith, c.in_ok-last.ensures))
