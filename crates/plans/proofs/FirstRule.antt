-- The first broken rule, found by the tests in the order of the rules' numbers.
use Rattle.std.proofs.Common.{◌≡◌, ℕ, suc, ◌-◌, ◌<◌, ◌≤◌, Bool, true, false, List, Some, Decides, Option, sym, refl, ap, subst, ⊎_elim, arith}
use Rattle.std.specs.List.{slice_get}
use Rattle.std.proofs.lemmas.Bool.{cases_lt}
use Rattle.std.proofs.lemmas.Bool.Decides.{not_from_Decides}
use Rattle.grammar.specs.Model.{Equation}
use Rattle.grammar.specs.Refusals.{rule_number}
use Rattle.grammar.specs.Scopes.{Scope}
use Rattle.grammar.specs.declared.terms.Instruction.{Instruction}
use Rattle.grammar.specs.declared.refusal.PlanRule.{PlanRule}
use Rattle.grammar.specs.declared.refusal.PlanRule.TheVariants.{ReturnsInOrder, OneEvaluation, VisitsInOrder, InheritedBeforeVisit, SynthesizedBeforeReturn, ArgumentsFirst}
use Rattle.plans.specs.PlanRules.{Holds, FirstBroken}
use Rattle.plans.specs.PlanTests.{passes, broken_or, plan_rules, first_broken}
use Rattle.plans.specs.Groups.{group_scope, group_equations, group_plan}
use Rattle.plans.specs.declared.Group.{Group}
use Rattle.plans.proofs.Telling.{tests_tell}

-- the rules are listed by their numbers
listed_at : (p : PlanRule) → slice_get plan_rules (rule_number p - 1) ≡ Some p
listed_at ReturnsInOrder = refl
listed_at OneEvaluation = refl
listed_at VisitsInOrder = refl
listed_at InheritedBeforeVisit = refl
listed_at SynthesizedBeforeReturn = refl
listed_at ArgumentsFirst = refl

same_rule_lem : (p q : PlanRule) → rule_number p ≡ rule_number q → p ≡ q
same_rule_lem p q e = let u = listed_at p in let v = listed_at q in let w = ap (λ n. slice_get plan_rules (n - 1)) e in cc

pub numbered : (p : PlanRule) → (1 ≤ rule_number p) × (rule_number p < 7)
numbered ReturnsInOrder = (omega arith, omega arith)
numbered OneEvaluation = (omega arith, omega arith)
numbered VisitsInOrder = (omega arith, omega arith)
numbered InheritedBeforeVisit = (omega arith, omega arith)
numbered SynthesizedBeforeReturn = (omega arith, omega arith)
numbered ArgumentsFirst = (omega arith, omega arith)

module _ (σ : Scope) (equations : List Equation) (plan : List Instruction) where
  -- the rules of a number below n hold
  abbrev Below : ℕ → Type 0
  Below n = (q : PlanRule) → rule_number q < n → Holds q σ equations plan

  below_more : (p : PlanRule) → Below (rule_number p) → Holds p σ equations plan → Below (suc (rule_number p))
  below_more p h here q l =
      ⊎_elim (h q) (λ g. let same : rule_number p ≡ rule_number q = omega arith in subst (λ r. Holds r σ equations plan) (same_rule_lem p q same) here)
      (cases_lt (rule_number q) (rule_number p))

  tried : (p : PlanRule) (later : Option PlanRule) → Below (rule_number p) → (Below (suc (rule_number p)) → FirstBroken σ equations plan later) → FirstBroken σ equations plan (broken_or (passes p σ equations plan) p later)
  tried p later below next = by (passes p σ equations plan) (tests_tell p σ equations plan)
    where
      by : (t : Bool) → Decides t (Holds p σ equations plan) → FirstBroken σ equations plan (broken_or t p later)
      by true d = next (below_more p below (d.0 refl))
      by false d = (not_from_Decides false d refl, below)

  pub first_broken_tells : FirstBroken σ equations plan (first_broken σ equations plan)
  first_broken_tells =
      tried ReturnsInOrder _ (λ q l. let h = (numbered q).0 in absurd (omega arith))
      (λ h. tried OneEvaluation _ h (λ h. tried VisitsInOrder _ h (λ h. tried InheritedBeforeVisit _ h (λ h. tried SynthesizedBeforeReturn _ h (λ h. tried ArgumentsFirst _ h (λ h q. h q (numbered q).1))))))

-- what the check of a group answers, and what that means
abbrev pub Answers : Group → Option PlanRule → Type 0
Answers g r = record { value : r ≡ first_broken (group_scope g) (group_equations g) (group_plan g); meaning : FirstBroken (group_scope g) (group_equations g) (group_plan g) r }

pub answered : (g : Group) (r : Option PlanRule) → r ≡ first_broken (group_scope g) (group_equations g) (group_plan g) → Answers g r
answered g r e = record { value = e; meaning = subst (FirstBroken (group_scope g) (group_equations g) (group_plan g)) (sym e) (first_broken_tells (group_scope g) (group_equations g) (group_plan g)) }
