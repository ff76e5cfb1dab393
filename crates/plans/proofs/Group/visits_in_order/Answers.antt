use Rattle.std.proofs.Common.{◌≡◌, ℕ, Bool, suc, ◌-◌, ap, ◌∙◌, length, rules, arith}
use borrow.Author.Tests.{tests}
use Rattle.grammar.specs.Tests.{every_below}
use Rattle.plans.specs.Groups.{group_scope}
use Rattle.plans.specs.PlanTests.{in_order}
use Rattle.plans.proofs.Chains.{below_asked}
use Rattle.plans.proofs.Group.visits_in_order.Goals as goal

pub returns : goal.returns
returns c =
    let test : ℕ → Bool = λ k. in_order (group_scope c.args.self.now) c.args.self.now.plan.now (suc k) in
    let n = length c.args.self.now.production.right.now in
    let same : n ≡ suc n - 1 = omega arith in
    below_asked test n _ _ _ c.all.ensures.ran (cc) (λ x b q k. search (rules, tests)) ∙ ap (every_below test) same
