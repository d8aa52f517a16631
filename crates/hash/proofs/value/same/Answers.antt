use Rattle.std.proofs.Common.{get_or, ◌∙◌, w32, Fits, rules}
use Rattle.hash.proofs.SameLaws.{same_words}
use Rattle.hash.proofs.value.same.Goals as goal

pub returns : goal.returns
returns c = c.eq.ensures
    ∙ same_words c.args.v.words c.args.u.words (λ i. let f : Fits w32 (get_or c.args.v.words i 0) = search rules in f.fits) (λ i. let f : Fits w32 (get_or c.args.u.words i 0) = search rules in f.fits) (search rules)
