use Rattle.loader.proofs.CallLaws.{order-read}
use Rattle.loader.proofs.order_bytes.read.Goals as goal

pub returns : goal.returns
returns c = order-read _ c.load-root.ensures c.load.ensures c.load-2.ensures
