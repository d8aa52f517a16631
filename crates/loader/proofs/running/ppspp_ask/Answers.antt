use Rattle.loader.proofs.CallLaws.{ask-counted}
use Rattle.loader.proofs.running.ppspp_ask.Goals as goal

pub returns : goal.returns
returns c = ask-counted _ c.ask-asked.result c.ask-asked.ensures c.number.ensures c.unwrap_or-found.ensures c.from.ensures
