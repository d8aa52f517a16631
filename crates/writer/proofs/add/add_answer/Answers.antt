use mathlib.Core.Path.{refl, sym, ◌∙◌}
use Rattle.std.proofs.lemmas.Result.{err_from_is_err_and}
use Rattle.base.proofs.OutLaws.{refusal_number, passed, refused_by, refused-nameless}
use Rattle.writer.proofs.AnswerLaws.{add-room, add-size, add-so-far, add-unwritable, add_low, add-long, add-fits, add-behind, add-own, on_accepted}
use Rattle.writer.proofs.add.add_answer.Goals as goal

pub returns-then-room-lt-MAX_SIZE-clause-answer : goal.returns-then-room-lt-MAX_SIZE-clause-answer
returns-then-room-lt-MAX_SIZE-clause-answer c = (add-room _ c.args.room.now c.args.len c.args.message c.args.bytes.now c.if-room-lt-MAX_SIZE.true, refl)

pub returns-then-len-gt-MAX_SIZE-clause-answer : goal.returns-then-len-gt-MAX_SIZE-clause-answer
returns-then-len-gt-MAX_SIZE-clause-answer c = (add-size _ c.args.room.now c.args.len c.args.message c.args.bytes.now c.if-room-lt-MAX_SIZE.false c.if-len-gt-MAX_SIZE.true, refl)

pub returns-in_err-behind-clause-answer : goal.returns-in_err-behind-clause-answer
returns-in_err-behind-clause-answer c =
    let p = err_from_is_err_and c.from_residual.result c.from_residual.ensures.1 in
    rw (p.1, p.2) (add-so-far _ c.args.room.now c.args.len c.args.message c.args.bytes.now c.if-room-lt-MAX_SIZE.false c.if-len-gt-MAX_SIZE.false c.in_err-behind.ensures.0 (refusal_number _), c.in_err-behind.ensures.1)

pub returns-then-not-writable-clause-answer : goal.returns-then-not-writable-clause-answer
returns-then-not-writable-clause-answer c = (add-unwritable _ c.args.room.now c.args.len c.args.message c.args.bytes.now c.if-room-lt-MAX_SIZE.false c.if-len-gt-MAX_SIZE.false c.in_ok-behind.ensures.0 c.writable.ensures c.if-not-writable.true, refl)

pub returns-then-len-size_of-clause-answer : goal.returns-then-len-size_of-clause-answer
returns-then-len-size_of-clause-answer c = (add-long _ c.args.room.now c.args.len c.args.message c.args.bytes.now c.if-room-lt-MAX_SIZE.false c.if-len-gt-MAX_SIZE.false c.in_ok-behind.ensures.0 c.writable.ensures c.if-not-writable.false c.size_of.ensures.size.0 c.if-len-size_of.true, refl)

pub returns-in_err-behind-2-clause-answer : goal.returns-in_err-behind-2-clause-answer
returns-in_err-behind-2-clause-answer c =
    let p = err_from_is_err_and c.from_residual-in_err-behind-2.result c.from_residual-in_err-behind-2.ensures.1 in
    let told = rw c.node_of.ensures at c.in_ok-behind.ensures.1 in
    rw (p.1, p.2)
    (add-behind _ c.args.room.now c.args.len c.args.message c.args.bytes.now c.if-room-lt-MAX_SIZE.false c.if-len-gt-MAX_SIZE.false c.in_ok-behind.ensures.0 c.writable.ensures c.if-not-writable.false c.size_of.ensures.size.0 c.if-len-size_of.false c.size_of.ensures.widths (sym (refused_by told c.in_err-behind-2.was)) (refusal_number _), refused-nameless told c.in_err-behind-2.was)

pub load32-requires : goal.load32-requires
load32-requires c = add_low _ c.args.room.now c.args.len c.args.message c.args.bytes.now c.if-room-lt-MAX_SIZE.false c.if-len-gt-MAX_SIZE.false c.in_ok-behind.ensures.0 c.writable.ensures c.if-not-writable.false

pub returns-clause-answer : goal.returns-clause-answer
returns-clause-answer c =
    let told = rw c.node_of.ensures at c.in_ok-behind.ensures.1 in
    let own = rw c.load32.ensures at c.own_answer.ensures in
    (own.0 ∙ add-own _ c.args.room.now c.args.len c.args.message c.args.bytes.now c.if-room-lt-MAX_SIZE.false c.if-len-gt-MAX_SIZE.false c.in_ok-behind.ensures.0 c.writable.ensures c.if-not-writable.false c.size_of.ensures.size.0 c.if-len-size_of.false c.size_of.ensures.widths refl (passed told c.in_ok-behind-2.was), own.1)

pub returns-clause-addable : goal.returns-clause-addable
returns-clause-addable c =
    on_accepted c.own_answer.result (λ z. add-fits _ c.args.room.now c.args.len c.args.message c.args.bytes.now c.if-room-lt-MAX_SIZE.false c.if-len-gt-MAX_SIZE.false c.in_ok-behind.ensures.0 c.writable.ensures c.if-not-writable.false c.size_of.ensures.size.0 c.if-len-size_of.false _ (sym c.own_answer.ensures.0 ∙ z))
