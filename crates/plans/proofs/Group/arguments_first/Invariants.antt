use Rattle.std.proofs.Common.{◌≡◌, ◌≤◌, take, count_by}
use Rattle.grammar.specs.Rows.{equation_of}
use Rattle.plans.specs.Groups.{group_scope, group_equations}
use Rattle.plans.specs.PlanRules.{Known, is_return}
use Rattle.plans.proofs.Places.{Upto}
use Rattle.plans.proofs.Ready.{Follows, EvaluationReady}
use Rattle.plans.proofs.Group.arguments_first.Given as goal

abbrev pub invariant-loop-i : goal.invariant-loop-i
invariant-loop-i l = Upto (EvaluationReady (group_scope l.self) (group_equations l.self) l.self.plan.now) l.self.plan.now l.i × (l.returns ≡ count_by is_return (take l.i l.self.plan.now)) × (l.returns ≤ l.i)

abbrev pub invariant-loop-equation : goal.invariant-loop-equation
invariant-loop-equation l = Upto (λ _ e. Follows (group_scope l.self) l.self.plan.now l.i l.o l.a (equation_of e)) l.self.equations.now l.equation-index

abbrev pub invariant-loop-argument : goal.invariant-loop-argument
invariant-loop-argument l = Upto (λ _ t. Known (group_scope l.self) l.self.plan.now l.i t) l.argument-items l.argument-index
