use Rattle.std.proofs.Common.{rules, tests, length, ◌/◌, ◌∙◌, sym}
use Rattle.std.proofs.lemmas.Iterator.{YieldsList-from_slice}
use Rattle.std.proofs.lemmas.Iterator.Search.{any_from_yields_List}
use Rattle.std.specs.Simd.{first_chunks}
use Rattle.wire.proofs.LayoutLaws.{names, seen_pairs}
use Rattle.wire.proofs.layout.seen_among.Goals as goal

pub returns : goal.returns
returns c =
    let f = any_from_yields_List (names c.args.node) _ _ _ c.any.ensures.ran (YieldsList-from_slice (first_chunks 2 (length c.args.entries.now / 2) c.args.entries.now) cc) (λ x b q k. search (rules, tests)) in
    f ∙ sym (seen_pairs c.args.node c.args.entries.now)
