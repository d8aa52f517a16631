use mathlib.Core.Path.{sym}
use Rattle.wire.proofs.LayoutLaws.{check_unsized, sized}
use Rattle.wire.proofs.pass.check.Goals as goal

pub returns-then-not-has_size : goal.returns-then-not-has_size
returns-then-not-has_size c = check_unsized _ _ _ (sym c.if-not-has_size.ensures)

pub plain_front-requires : goal.plain_front-requires
plain_front-requires c = let h = sized _ (sym c.if-not-has_size.ensures) in record { min_size_in_bounds = h.0; datagram_len_bound = h.1 }
