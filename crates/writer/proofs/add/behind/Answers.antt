use mathlib.Core.Path.{refl, sym, ◌∙◌}
use Rattle.wire.proofs.LayoutLaws.{sized}
use Rattle.writer.proofs.AnswerLaws.{told_unsized, told-plain}
use Rattle.writer.proofs.add.behind.Goals as goal

pub returns-then-not-has_size : goal.returns-then-not-has_size
returns-then-not-has_size c = (told_unsized _ _ (sym c.has_size.ensures ∙ c.if-not-has_size.true), refl)

pub plain_front-front-requires : goal.plain_front-front-requires
plain_front-front-requires c = let h = sized _ (sym c.has_size.ensures ∙ c.if-not-has_size.false) in record { min_size_in_bounds = h.0; datagram_len_bound = h.1 }

pub returns-then-front-prefix : goal.returns-then-front-prefix
returns-then-front-prefix c = let h = told-plain _ _ c.args.node _ c.plain_front-front.ensures c.if-front-prefix.true in (h.0, (h.1, refl))
