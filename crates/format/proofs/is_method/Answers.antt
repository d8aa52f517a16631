use Rattle.std.proofs.Common.{◌≡◌, refl, ◌∙◌, Bool, true, false, Ok, Err, ap, eqb}
use Rattle.std.specs.Result.{is_ok}
use Rattle.base.specs.Pick.{pick}
use Rattle.format.specs.declared.Addressing.TheVariants.{Bins, Ranges}
use Rattle.format.specs.declared.NoMethod.{NoMethod}
use Rattle.format.specs.Format.{addressing_of, is_method}
use Rattle.format.proofs.is_method.Goals as goal

found : (a b : Bool) → is_ok {E = NoMethod} (pick a (Ok Bins) (pick b (Ok Ranges) (Err (record {})))) ≡ pick a true b
found true b = refl
found false true = refl
found false false = refl

pub returns : goal.returns
unfolding is_method addressing_of
returns c = c.is_ok.ensures.value ∙ ap is_ok c.try_from.ensures ∙ found (eqb c.args.method 0) (eqb c.args.method 2)
