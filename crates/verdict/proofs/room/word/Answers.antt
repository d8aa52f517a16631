use Rattle.std.proofs.Common.{ℕ, List, get_or, ap, ◌∙◌}
use Rattle.verdict.proofs.RoomLaws.{word-there, word-past}
use Rattle.verdict.proofs.room.word.Goals as goal

pub returns-in-Some : goal.returns-in-Some
returns-in-Some c =
    ap (λ (ws : List ℕ). get_or ws c.args.j 0) c.in-Some.ensures.1
    ∙ word-there c.args.hashes.now c.args.b c.args.j (λ i. (c.type_inv.hashes i).fits) c.in-Some.ensures.0

pub returns-in-None : goal.returns-in-None
returns-in-None c = word-past c.args.hashes.now c.args.b c.args.j c.in-None.ensures
