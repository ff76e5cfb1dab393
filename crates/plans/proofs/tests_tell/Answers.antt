use Rattle.plans.proofs.Telling.{tests_tell}
use Rattle.plans.proofs.tests_tell.Goals as goal

pub returns : goal.returns
returns c = tests_tell
