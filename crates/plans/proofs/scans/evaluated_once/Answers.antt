use Rattle.std.proofs.Common.{◌≡◌, ◌+◌, not, sym, ap, ◌∙◌, rules}
use Rattle.std.proofs.lemmas.List.{take_rest}
use Rattle.grammar.specs.declared.terms.Instruction.TheVariants.{Evaluate}
use Rattle.plans.specs.PlanTests.{stands}
use Rattle.plans.proofs.Standing.{once_nowhere, once_after}
use Rattle.plans.proofs.scans.evaluated_once.Goals as goal

pub returns-in_default : goal.returns-in_default
returns-in_default c = sym (once_nowhere (Evaluate c.args.o c.args.a) c.args.plan.now (sym c.before_evaluation.ensures ∙ c.in_default.is))

pub returns : goal.returns
returns c =
    let x = Evaluate c.args.o c.args.a in
    ap not (c.evaluated.ensures ∙ ap (stands x) (take_rest c.args.plan.now (c.in-Some.first + 1)))
    ∙ sym (once_after x c.args.plan.now c.in-Some.first (sym c.before_evaluation.ensures ∙ c.in-Some.is))
