use Rattle.wire.specs.Steps.{has_size}
use Rattle.wire.proofs.OptionsLaws.{tests}
use Rattle.wire.proofs.LayoutLaws.{size-test}
use Rattle.wire.proofs.pass.has_size.Goals as goal

pub returns-then-datagram-ge-MIN_SIZE : goal.returns-then-datagram-ge-MIN_SIZE
returns-then-datagram-ge-MIN_SIZE c = size-test _ c.if-datagram-ge-MIN_SIZE.true

pub returns-else-datagram-ge-MIN_SIZE : goal.returns-else-datagram-ge-MIN_SIZE
unfolding has_size
returns-else-datagram-ge-MIN_SIZE c = search tests
