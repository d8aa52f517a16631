use Rattle.wire.specs.Steps.{is_single}
use Rattle.wire.proofs.OptionsLaws.{tests}
use Rattle.wire.proofs.plain.is_single.Goals as goal

pub returns-then-kind-eq-CHOKE : goal.returns-then-kind-eq-CHOKE
unfolding is_single
returns-then-kind-eq-CHOKE c = rw c.if-kind-eq-CHOKE.true

pub returns-else-kind-eq-CHOKE : goal.returns-else-kind-eq-CHOKE
unfolding is_single
returns-else-kind-eq-CHOKE c = search tests
