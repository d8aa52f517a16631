use Rattle.std.proofs.Common.{sym, ◌∙◌, arith, rules}
use Rattle.trace.proofs.BlockLaws.{lines-begin, step-reads, lines-again, lines_end}
use Rattle.trace.proofs.stream.answer_lines.Goals as goal

pub loop-rooms-init : goal.loop-rooms-init
loop-rooms-init c = record { rooms = search rules; line = search rules; out = search rules; read = omega arith; done = lines-begin _ _ _ _ }

pub loop-rooms-smaller : goal.loop-rooms-smaller
loop-rooms-smaller c =
    let h = step-reads c.args.block.now _ (sym c.goes_on.ensures ∙ c.loop-rooms-test.true) c.advance-p.ensures.advanced in
    omega (arith, h.0, h.1)

pub loop-rooms-preserved : goal.loop-rooms-preserved
loop-rooms-preserved c =
    let more = sym c.goes_on.ensures ∙ c.loop-rooms-test.true in
    record {
      rooms = search rules;
      line = search rules;
      out = search rules;
      read = (step-reads c.args.block.now _ more c.advance-p.ensures.advanced).1;
      done = lines-again c.args.block.now _ more c.advance-p.ensures.advanced ∙ c.loop-rooms.invariant.done;
    }

pub returns-clause-lines : goal.returns-clause-lines
returns-clause-lines c = lines_end c.args.block.now _ (sym c.goes_on.ensures ∙ c.loop-rooms-test.false) ∙ c.loop-rooms.invariant.done
