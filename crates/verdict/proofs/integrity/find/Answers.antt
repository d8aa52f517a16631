use Rattle.std.proofs.Common.{rules, tests, length, ◌/◌, ◌∙◌, sym, ap}
use Rattle.std.proofs.lemmas.Iterator.{YieldsList-from_slice}
use Rattle.std.proofs.lemmas.Iterator.Search.{find_from_yields_List}
use Rattle.verdict.proofs.IntegrityLaws.{find_pairs, names, second}
use Rattle.std.specs.Option.{option_map}
use Rattle.std.specs.Simd.{first_chunks}
use Rattle.verdict.proofs.integrity.find.Goals as goal

pub returns : goal.returns
returns c =
    let f = find_from_yields_List (names c.args.b) _ _ _ c.find.ensures.ran (YieldsList-from_slice (first_chunks 2 (length c.args.entries.now / 2) c.args.entries.now) cc) (λ x b q k. search (rules, tests)) in
    search rules ∙ ap (option_map second) f ∙ sym (find_pairs c.args.entries.now c.args.b)
