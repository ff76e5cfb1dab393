use Rattle.std.proofs.Common.{rules}
use borrow.Author.Tests.{tests}
use Rattle.lines.specs.Faults.{right_visit}
use Rattle.plans.proofs.Chains.{every_asked}
use Rattle.lines.proofs.faults.visits_right.Goals as goal

pub returns : goal.returns
returns c = every_asked right_visit c.args.plan.now _ _ _ c.all.ensures.ran (cc) (λ x b q k. search (rules, tests))
