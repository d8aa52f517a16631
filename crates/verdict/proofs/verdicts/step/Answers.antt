use Rattle.std.proofs.Common.{◌≡◌, ◌≢◌, ℕ, ◌/◌, ◌%◌, ◌^◌, List, ◌++◌, sym, ap, ◌∙◌, eqb-true, arith}
use Rattle.std.proofs.lemmas.Bool.{eqb-false}
use Rattle.hash.proofs.Promise.{sha256, bytes_of}
use Rattle.tree.specs.Node.{sibling_from}
use Rattle.verdict.specs.Integrity.{integrity_in}
use Rattle.verdict.specs.Steps.{got_at, got_by}
use Rattle.tree.proofs.TreeLaws.{joined-left, joined-right}
use Rattle.verdict.proofs.verdicts.step.Goals as goal

pub returns-then-bit : goal.returns-then-bit
returns-then-bit c =
    let o = integrity_in c.args.integrity in
    let e : c.args.c / 2 ^ c.args.h % 2 ≡ 1 = eqb-true _ 1 (sym c.if-bit.ensures) in
    c.parent.ensures ∙ ap (λ (x : List ℕ). sha256 (x ++ bytes_of c.args.acc.words)) (c.get-s.ensures ∙ ap (got_at o) c.sibling.ensures)
    ∙ sym (joined-right sha256 c.args.h c.args.c (bytes_of c.args.acc.words) (got_by o c.args.h (sibling_from c.args.h c.args.c)) e)

pub returns-else-bit : goal.returns-else-bit
returns-else-bit c =
    let o = integrity_in c.args.integrity in
    let n : c.args.c / 2 ^ c.args.h % 2 ≢ 1 = eqb-false _ 1 (sym c.if-bit.ensures) in
    let e : c.args.c / 2 ^ c.args.h % 2 ≡ 0 = omega arith in
    c.parent-else-bit.ensures ∙ ap (λ (x : List ℕ). sha256 (bytes_of c.args.acc.words ++ x)) (c.get-s.ensures ∙ ap (got_at o) c.sibling.ensures)
    ∙ sym (joined-left sha256 c.args.h c.args.c (bytes_of c.args.acc.words) (got_by o c.args.h (sibling_from c.args.h c.args.c)) e)
