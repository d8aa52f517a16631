use Rattle.hash.specs.Word.{word32}
use Rattle.hash.proofs.value.word.Goals as goal

pub returns : goal.returns
unfolding word32
returns c = c.from_be_bytes.ensures
