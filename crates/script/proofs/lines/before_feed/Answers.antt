use Rattle.std.proofs.Common.{◌∙◌}
use Rattle.script.proofs.LineLaws.{feed_by, feed_found, feed_nowhere}
use Rattle.script.proofs.lines.before_feed.Goals as goal

pub returns : goal.returns
returns c =
    let s = c.args.block.now in
    c.unwrap_or.ensures ∙ feed_by s c.memchr.result c.memchr.ensures (feed_nowhere s) (λ k h. feed_found s k h.0.before h.0.high h.1)
