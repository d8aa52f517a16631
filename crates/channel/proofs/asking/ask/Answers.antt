use Rattle.std.proofs.Common.{rules}
use Rattle.channel.specs.Ask.{ask_spec}
use Rattle.channel.proofs.asking.ask.Goals as goal

pub returns-then-state-lt-STATE_WORDS : goal.returns-then-state-lt-STATE_WORDS
unfolding ask_spec
returns-then-state-lt-STATE_WORDS c = search rules

pub returns : goal.returns
unfolding ask_spec
returns c = search rules
