use Rattle.script.proofs.LineLaws.{put-answer}
use Rattle.script.proofs.answers.put_line.Goals as goal

pub returns : goal.returns
returns c = put-answer c.args.line.now _ _ c.requires c.encode.ensures c.encode-2.ensures
