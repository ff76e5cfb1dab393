use Rattle.std.proofs.Common.{Decides, arith}
use Rattle.std.proofs.lemmas.Grind.{common_steps}
use Rattle.std.proofs.lemmas.Bool.Decides.{same_from_decides}
use Rattle.grammar.specs.Scopes.{visits_at}
use Rattle.grammar.specs.declared.terms.Instruction.TheVariants.{Return}
use Rattle.plans.specs.Groups.{group_scope}
use Rattle.plans.specs.PlanRules.{EndsWith}
use Rattle.plans.proofs.Standing.{ends_decides}
use Rattle.plans.proofs.Group.ends.Goals as goal

pub returns : goal.returns
returns c =
    let plan = c.args.self.now.plan.now in
    let x = Return (visits_at (group_scope c.args.self.now) 0) in
    let ends : Decides c.eq.result (EndsWith plan x) = grind (arith, common_steps) in
    same_from_decides _ _ ends (ends_decides plan x)
