use Rattle.std.proofs.Common.{◌≡◌, ℕ, suc, ◌+◌, Bool, length, ap, ◌∙◌, rules, arith}
use borrow.Author.Tests.{tests}
use Rattle.grammar.specs.Scopes.{attributes_at}
use Rattle.grammar.specs.Tests.{every_below}
use Rattle.plans.specs.Groups.{group_scope}
use Rattle.plans.specs.PlanTests.{evaluates_once}
use Rattle.plans.proofs.Chains.{below_asked}
use Rattle.plans.proofs.Group.each_once_everywhere.Goals as goal

pub returns : goal.returns
returns c =
    let σ = group_scope c.args.self.now in
    let test : ℕ → Bool = λ o. every_below (evaluates_once σ c.args.self.now.plan.now o) (attributes_at σ o) in
    let n = length c.args.self.now.production.right.now in
    let next : n + 1 ≡ suc n = omega arith in
    below_asked test (n + 1) _ _ _ c.all.ensures.ran (cc) (λ x b q k. search (rules, tests)) ∙ ap (every_below test) next
