use Rattle.std.proofs.Common.{length, ap, ◌∙◌, rules}
use borrow.Author.Tests.{tests}
use Rattle.grammar.specs.Tests.{every_below}
use Rattle.plans.specs.Groups.{group_scope}
use Rattle.plans.specs.PlanTests.{evaluates_once}
use Rattle.plans.proofs.Chains.{below_asked}
use Rattle.plans.proofs.Group.each_once.Goals as goal

pub returns : goal.returns
returns c =
    let test = evaluates_once (group_scope c.args.self.now) c.args.self.now.plan.now c.args.occurrence in
    below_asked test (length c.attributes.result.now) _ _ _ c.all.ensures.ran (cc) (λ x b q k. search (rules, tests)) ∙ ap (every_below test) c.attributes.ensures.count
