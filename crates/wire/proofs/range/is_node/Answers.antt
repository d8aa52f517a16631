use mathlib.Core.Path.{◌∙◌, ap}
use Rattle.std.specs.Prelude.{is_some}
use Rattle.wire.proofs.PlaceLaws.{node-found}
use Rattle.wire.proofs.range.is_node.Goals as goal

pub returns : goal.returns
returns c = c.is_some.ensures ∙ ap is_some c.node_of_range.ensures ∙ node-found c.args.first c.args.last
