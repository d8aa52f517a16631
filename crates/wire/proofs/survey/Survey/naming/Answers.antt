use Rattle.wire.specs.Steps.{naming}
use Rattle.wire.proofs.SurveyLaws.{higher-max}
use Rattle.wire.proofs.survey.Survey.naming.Goals as goal

pub returns : goal.returns
unfolding naming
returns c = rw (c.max.ensures, higher-max c.args.self.highest c.args.last)
