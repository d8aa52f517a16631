use Rattle.std.proofs.Common.{◌∙◌, rules}
use Rattle.script.proofs.Promise.{filled_in}
use Rattle.trace.proofs.SessionLaws.{part}
use Rattle.trace.proofs.StreamLaws.{before-length, before-within, before-less, advance-on, advance-line}
use Rattle.trace.proofs.stream.advance.Goals as goal

pub slice_bounds-keep-end : goal.slice_bounds-keep-end
slice_bounds-keep-end c = before-length c.args.block.now c.args.read (part c.args.read c.args.block.now) c.before_feed-n.ensures

pub returns-then-n-rest-clause-advanced : goal.returns-then-n-rest-clause-advanced
returns-then-n-rest-clause-advanced c =
    advance-on c.args.block.now c.args.read (part c.args.read c.args.block.now) c.before_feed-n.ensures _ (filled_in c.args.line.now) _ c.keep.ensures.kept c.if-n-rest.true

pub overflow_add-result-2 : goal.overflow_add-result-2
overflow_add-result-2 c =
    let h = before-within c.args.block.now c.args.read (part c.args.read c.args.block.now) c.before_feed-n.ensures c.requires in
    search rules

pub overflow_add-result-3 : goal.overflow_add-result-3
overflow_add-result-3 c =
    let h = before-less c.args.block.now c.args.read (part c.args.read c.args.block.now) c.before_feed-n.ensures c.requires c.if-n-rest.false in
    search rules

pub returns-clause-advanced : goal.returns-clause-advanced
returns-clause-advanced c =
    c.end_line-after.ensures.done _
    ∙ advance-line c.args.block.now c.args.read (part c.args.read c.args.block.now) c.before_feed-n.ensures _ (filled_in c.args.line.now) _ c.keep.ensures.kept c.if-n-rest.false
