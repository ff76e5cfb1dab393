use Rattle.std.proofs.Common.{◌≡◌, ◌+◌, sym, ap, ◌∙◌, subst, arith}
use Rattle.std.specs.List.{AllByRecursion}
use Rattle.std.proofs.lemmas.Bool.Decides.{Decides-at, not_from_Decides, same_from_decides}
use Rattle.std.proofs.lemmas.List.Sums.{count_by_more_yes, count_by_more_no}
use Rattle.grammar.specs.Rows.{equation_of, targets}
use Rattle.plans.specs.Groups.{group_scope, group_equations}
use Rattle.plans.specs.PlanRules.{Known, is_return}
use Rattle.plans.proofs.Deciding.{never, shown, refuted}
use Rattle.plans.proofs.Places.{upto_more, upto_read, upto_all, upto_here, here_read, all_throughout, throughout_all}
use Rattle.plans.proofs.Ready.{Follows, EvaluationReady, evaluation_from, evaluation_at, known_behind, known_decides, target_decides}
use Rattle.plans.proofs.Telling.{arguments_from, arguments_at, tests_tell}
use Rattle.grammar.specs.declared.refusal.PlanRule.TheVariants.{ArgumentsFirst}
use Rattle.plans.proofs.Group.arguments_first.Goals as goal
use Rattle.plans.proofs.Group.arguments_first.Goals.{in-Evaluate+else-loop-equation-test, in-Visit, in-Return, then-targets+else-loop-argument-test, else-targets}

pub loop-argument-preserved : goal.loop-argument-preserved
loop-argument-preserved c =
    let σ = group_scope c.args.self.now in
    let plan = c.args.self.now.plan.now in
    upto_more (λ _ t. Known σ plan c.loop-i.i t) c.as_slice-argument-items.result.now c.loop-argument.argument-index _ c.loop-argument-test.true c.loop-argument.invariant
    ((Decides-at _ _ (c.known.ensures ∙ known_behind plan c.loop-i.i σ _) (known_decides σ plan c.loop-i.i _)).0 c.if-not-known.false)

pub loop-equation-preserved : goal.loop-equation-preserved
loop-equation-preserved c =
    let σ = group_scope c.args.self.now in
    let plan = c.args.self.now.plan.now in
    let i = c.loop-i.i in
    let told : c.targets.result ≡ targets (equation_of c.equation-item.result) c.in-Evaluate.o c.in-Evaluate.a = cc in
    upto_read (λ _ e. Follows σ plan i c.in-Evaluate.o c.in-Evaluate.a (equation_of e)) c.args.self.now.equations.now c.loop-equation.equation-index c.equation-item.result c.loop-equation-test.true c.equation-item.is c.loop-equation.invariant
    (λ to. elim c.if-targets.branch [
      | then-targets+else-loop-argument-test w ↦
          subst (AllByRecursion (Known σ plan i)) w.as_slice-argument-items.ensures.value (throughout_all (Known σ plan i) _ (upto_all _ _ _ w.loop-argument-test.false w.loop-argument.invariant))
      | else-targets w ↦ absurd (not_from_Decides _ (Decides-at _ _ told (target_decides (equation_of c.equation-item.result) c.in-Evaluate.o c.in-Evaluate.a)) w.if-targets.false to)
    ])

pub loop-i-preserved : goal.loop-i-preserved
loop-i-preserved c =
    let σ = group_scope c.args.self.now in
    let plan = c.args.self.now.plan.now in
    let i = c.loop-i.i in
    let ready = upto_more (EvaluationReady σ (group_equations c.args.self.now) plan) plan i _ c.loop-i-test.true c.loop-i.invariant.0 in
    elim c.match-x.branch [
      | in-Evaluate+else-loop-equation-test w ↦ (
        ready (evaluation_from σ c.args.self.now.equations.now plan i _ w.in-Evaluate.o w.in-Evaluate.a w.in-Evaluate.is (upto_all _ _ _ w.loop-equation-test.false w.loop-equation.invariant)),
        w.returns-is ∙ c.loop-i.invariant.1 ∙ sym (count_by_more_no is_return plan i _ c.loop-i-test.true (ap is_return w.in-Evaluate.is)),
        omega arith,
      )
      | in-Visit w ↦ (
        ready (λ o a e. let is = w.in-Visit.is in never (cc)),
        w.returns-is ∙ c.loop-i.invariant.1 ∙ sym (count_by_more_no is_return plan i _ c.loop-i-test.true (ap is_return w.in-Visit.is)),
        omega arith,
      )
      | in-Return w ↦ (
        ready (λ o a e. let is = w.in-Return.is in never (cc)),
        w.returns-is ∙ ap (λ n. n + 1) c.loop-i.invariant.1 ∙ sym (count_by_more_yes is_return plan i _ c.loop-i-test.true (ap is_return w.in-Return.is)),
        omega arith,
      )
    ]

pub returns-then-not-known : goal.returns-then-not-known
returns-then-not-known c =
    let σ = group_scope c.args.self.now in
    let plan = c.args.self.now.plan.now in
    let rows = c.args.self.now.equations.now in
    let i = c.loop-i.i in
    let told : c.targets.result ≡ targets (equation_of c.equation-item.result) c.in-Evaluate.o c.in-Evaluate.a = cc in
    same_from_decides _ _
    (refuted λ h.
    let ready = upto_here (EvaluationReady σ (group_equations c.args.self.now) plan) plan i _ c.loop-i-test.true (arguments_at σ (group_equations c.args.self.now) plan h) in
    let each = evaluation_at σ rows plan i _ c.in-Evaluate.o c.in-Evaluate.a c.in-Evaluate.is ready in
    let all = here_read _ rows c.loop-equation.equation-index c.equation-item.result c.loop-equation-test.true c.equation-item.is each ((Decides-at _ _ told (target_decides (equation_of c.equation-item.result) c.in-Evaluate.o c.in-Evaluate.a)).0 c.if-targets.true) in
    let listed = all_throughout (Known σ plan i) c.as_slice-argument-items.result.now (subst (AllByRecursion (Known σ plan i)) (sym c.as_slice-argument-items.ensures.value) all) in
    not_from_Decides _ (Decides-at _ _ (c.known.ensures ∙ known_behind plan i σ _) (known_decides σ plan i _)) c.if-not-known.true (upto_here (λ _ t. Known σ plan i t) c.as_slice-argument-items.result.now c.loop-argument.argument-index _ c.loop-argument-test.true listed))
    (tests_tell ArgumentsFirst σ (group_equations c.args.self.now) plan)

pub returns-after-loop-i : goal.returns-after-loop-i
returns-after-loop-i c =
    same_from_decides _ _
    (shown (arguments_from (group_scope c.args.self.now) (group_equations c.args.self.now) _ (upto_all _ _ _ c.loop-i-test.false c.loop-i.invariant.0)))
    (tests_tell ArgumentsFirst (group_scope c.args.self.now) (group_equations c.args.self.now) c.args.self.now.plan.now)
