use Rattle.std.proofs.Common.{rules}
use borrow.Author.Tests.{tests}
use Rattle.plans.specs.Groups.{group_scope}
use Rattle.plans.specs.PlanTests.{evaluates_defined}
use Rattle.plans.proofs.Chains.{every_asked}
use Rattle.plans.proofs.Group.all_defined.Goals as goal

pub returns : goal.returns
returns c = every_asked (evaluates_defined (group_scope c.args.self.now)) c.args.self.now.plan.now _ _ _ c.all.ensures.ran (cc) (λ x b q k. search (rules, tests))
