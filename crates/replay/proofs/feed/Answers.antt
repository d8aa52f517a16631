use Rattle.std.proofs.Common.{◌<◌, length, arith, rules}
use Rattle.trace.proofs.Promise.{fed_none, fed-turn, read-bound, read_some, used-within, rest_shorter}
use Rattle.replay.proofs.feed.Goals as goal

pub loop-rest-init : goal.loop-rest-init
loop-rest-init g c = record { rooms = search rules; line = search rules; out = search rules; fed = fed_none _ _ _ }

pub flush-requires : goal.flush-requires
flush-requires g c = used-within _ _ _ _ c.answer_lines-p.ensures.lines

pub slice_bounds-rest-count : goal.slice_bounds-rest-count
slice_bounds-rest-count g c = read-bound _ _ _ _ c.answer_lines-p.ensures.lines

pub slice_bounds-rest-start : goal.slice_bounds-rest-start
slice_bounds-rest-start g c = read-bound _ _ _ _ c.answer_lines-p.ensures.lines

pub loop-rest-smaller : goal.loop-rest-smaller
loop-rest-smaller g c =
    let here = c.loop-rest.invariant in
    let some : 0 < length c.loop-rest.rest.now = search rules in
    rest_shorter _ c.loop-rest.rest.now
    (read_some _ _ _ _ c.answer_lines-p.ensures.lines (omega (arith, here.rooms.reply_size, here.out.size, c.requires)) some)
    (read-bound _ _ _ _ c.answer_lines-p.ensures.lines)

pub loop-rest-preserved : goal.loop-rest-preserved
loop-rest-preserved g c = record {
  rooms = search rules;
  line = search rules;
  out = search rules;
  fed = fed-turn c.loop-rest.invariant.fed _ c.answer_lines-p.ensures.lines;
}
