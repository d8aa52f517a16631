use Rattle.std.proofs.Common.{rules}
use Rattle.channel.specs.Take.{ours}
use Rattle.channel.proofs.handshakes.is_ours.Goals as goal

pub returns-in-EndOnly : goal.returns-in-EndOnly
unfolding ours
returns-in-EndOnly c = search rules
