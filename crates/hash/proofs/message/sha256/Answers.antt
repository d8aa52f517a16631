use Rattle.std.proofs.Common.{sym, ap, ◌∙◌}
use Rattle.hash.specs.Word.{bytes_of}
use Rattle.hash.specs.Message.{hashed}
use Rattle.hash.specs.Sha256.{sha256_is}
use Rattle.hash.proofs.message.sha256.Goals as goal

pub returns : goal.returns
unfolding hashed
returns c = ap bytes_of (rw c.initial.ensures at c.finish.ensures) ∙ sym (sha256_is _)
