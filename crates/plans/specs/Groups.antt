-- What a rule with its equations and plan means.
use Rattle.std.specs.Prelude.{List, map, Decides}
use Rattle.grammar.specs.Model.{Equation}
use Rattle.grammar.specs.Rows.{equation_of}
use Rattle.grammar.specs.Scopes.{Scope, scope_of}
use Rattle.grammar.specs.declared.terms.Instruction.{Instruction}
use Rattle.grammar.specs.declared.refusal.PlanRule.{PlanRule}
use Rattle.plans.specs.PlanRules.{Holds}
use Rattle.plans.specs.PlanTests.{passes}
use Rattle.plans.specs.declared.Group.{Group}

abbrev pub group_scope : Group → Scope
group_scope g = scope_of g.production

abbrev pub group_equations : Group → List Equation
group_equations g = map equation_of g.equations.now

abbrev pub group_plan : Group → List Instruction
group_plan g = g.plan.now

-- the tests tell just where the rules hold
abbrev pub TestsTell : Type 0
TestsTell =
    (p : PlanRule) (σ : Scope) (equations : List Equation) (plan : List Instruction) →
    Decides (passes p σ equations plan) (Holds p σ equations plan)
