use Rattle.sheet.proofs.Keeping.{acceptance}
use Rattle.sheet.proofs.Refusals.{plan_refused}
use Rattle.sheet.proofs.laws.acceptance_stands.Goals as goal

pub returns : goal.returns
returns c = record { accepts = acceptance; refuses = plan_refused }
