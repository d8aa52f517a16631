use Rattle.std.proofs.Common.{rules}
use Rattle.channel.specs.Opening.{occupied}
use Rattle.channel.proofs.opening.occupy.Goals as goal

pub returns : goal.returns
unfolding occupied
returns c = search rules
