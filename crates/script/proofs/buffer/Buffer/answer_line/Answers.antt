use Rattle.std.proofs.Common.{sym, ◌∙◌, arith, rules}
use Rattle.script.proofs.LineLaws.{fits_bound, line-fits, line-not}
use Rattle.script.proofs.buffer.Buffer.answer_line.Goals as goal

pub overflow_add-end : goal.overflow_add-end
overflow_add-end c = let h = fits_bound _ _ _ (sym c.fits.ensures ∙ c.if-fits.true) in search rules

pub overflow_add-end-then-fits : goal.overflow_add-end-then-fits
overflow_add-end-then-fits c = let h = fits_bound _ _ _ (sym c.fits.ensures ∙ c.if-fits.true) in search rules

pub slice_bounds-put_line-end : goal.slice_bounds-put_line-end
slice_bounds-put_line-end c = let h = fits_bound _ _ _ (sym c.fits.ensures ∙ c.if-fits.true) in search rules

pub returns-then-fits-clause-appended : goal.returns-then-fits-clause-appended
returns-then-fits-clause-appended c = line-fits _ _ _ _ (sym c.fits.ensures ∙ c.if-fits.true) c.put_line.ensures (omega arith) (omega arith)

pub returns-else-fits-clause-appended : goal.returns-else-fits-clause-appended
returns-else-fits-clause-appended c = line-not _ _ _ _ (sym c.fits.ensures ∙ c.if-fits.false)
