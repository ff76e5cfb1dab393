use Rattle.std.proofs.Common.{rules, Option}
use Rattle.std.specs.Result.{result_err}
use Rattle.grammar.specs.declared.refusal.PlanRule.{PlanRule}
use Rattle.plans.proofs.FirstRule.{answered}
use Rattle.plans.proofs.Group.check.Goals as goal

pub returns-in_err-require : goal.returns-in_err-require
returns-in_err-require c =
    let r : Option PlanRule = result_err c.from_residual.result in
    answered c.args.self.now r (search rules)

pub returns-in_err-require-2 : goal.returns-in_err-require-2
returns-in_err-require-2 c =
    let r : Option PlanRule = result_err c.from_residual-in_err-require-2.result in
    answered c.args.self.now r (search rules)

pub returns-in_err-require-3 : goal.returns-in_err-require-3
returns-in_err-require-3 c =
    let r : Option PlanRule = result_err c.from_residual-in_err-require-3.result in
    answered c.args.self.now r (search rules)

pub returns-in_err-require-4 : goal.returns-in_err-require-4
returns-in_err-require-4 c =
    let r : Option PlanRule = result_err c.from_residual-in_err-require-4.result in
    answered c.args.self.now r (search rules)

pub returns-in_err-require-5 : goal.returns-in_err-require-5
returns-in_err-require-5 c =
    let r : Option PlanRule = result_err c.from_residual-in_err-require-5.result in
    answered c.args.self.now r (search rules)

pub returns : goal.returns
returns c =
    let r : Option PlanRule = result_err c.require-6.result in
    answered c.args.self.now r (search rules)
