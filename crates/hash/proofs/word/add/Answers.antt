use Rattle.hash.specs.Word.{◌⊞◌}
use Rattle.hash.proofs.word.add.Goals as goal

pub returns : goal.returns
unfolding ◌⊞◌
returns c = cc
