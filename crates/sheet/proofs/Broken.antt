-- A plan meets every rule just where the tests find none broken.
use Rattle.std.proofs.Common.{◌≡◌, List, Some, None, Option, refl, subst}
use Rattle.grammar.specs.Model.{Equation}
use Rattle.grammar.specs.Scopes.{Scope}
use Rattle.grammar.specs.declared.terms.Instruction.{Instruction}
use Rattle.grammar.specs.declared.refusal.PlanRule.{PlanRule}
use Rattle.plans.specs.PlanRules.{Planned, FirstBroken}
use Rattle.plans.specs.PlanTests.{first_broken}
use Rattle.plans.proofs.FirstRule.{first_broken_tells}

module _ (σ : Scope) (es : List Equation) (is : List Instruction) where
  pub planned_from : first_broken σ es is ≡ None → Planned σ es is
  planned_from e = subst (FirstBroken σ es is) e (first_broken_tells σ es is)

  pub planned_passes : Planned σ es is → first_broken σ es is ≡ None
  planned_passes h = by (first_broken σ es is) (first_broken_tells σ es is)
    where
      by : (o : Option PlanRule) → FirstBroken σ es is o → o ≡ None
      by None f = refl
      by (Some p) f = absurd (f.0 (h p))
