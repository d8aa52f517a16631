use Rattle.std.proofs.Common.{◌≡◌, refl, ◌∙◌, Bool, true, false, Ok, Err, ap, eqb}
use Rattle.std.specs.Result.{result_unwrap_or}
use Rattle.base.specs.Pick.{pick}
use Rattle.format.specs.declared.Addressing.TheVariants.{Bins, Ranges}
use Rattle.format.specs.declared.NoMethod.{NoMethod}
use Rattle.format.specs.Format.{addressing_of, format_by, format_of}
use Rattle.format.proofs.of_method.Goals as goal

found : (a b : Bool)
    → format_by (result_unwrap_or {E = NoMethod} (pick a (Ok Bins) (pick b (Ok Ranges) (Err (record {})))) Ranges) ≡ pick a (format_by Bins) (format_by Ranges)
found true b = refl
found false true = refl
found false false = refl

pub returns : goal.returns
unfolding format_of addressing_of
returns c = ap format_by (c.unwrap_or.ensures ∙ ap (λ r. result_unwrap_or r Ranges) c.try_from.ensures) ∙ found (eqb c.args.method 0) (eqb c.args.method 2)
