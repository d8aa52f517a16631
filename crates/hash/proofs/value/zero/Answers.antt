use Rattle.hash.proofs.BytesLaws.{bytes_zeros}
use Rattle.hash.proofs.value.zero.Goals as goal

pub returns : goal.returns
returns c = bytes_zeros 8
