use Rattle.std.proofs.Common.{◌≡◌, [], sym, ap, ◌∙◌, subst, MatchOption}
use Rattle.grammar.specs.Rows.{equation_of}
use Rattle.sheet.specs.Answers.{grammar_of}
use Rattle.tour.specs.Results.{equation}
use Rattle.tour.specs.Rules.{rule}
use Rattle.walk.specs.Evaluation.{NoEquation}
use Rattle.walk.proofs.Evaluating.{none_in_nothing, equation_looked}
use Rattle.walk.proofs.Looking.{rule_found, rule_missing}
use Rattle.walk.proofs.evaluation.equation_met.Goals as goal

pub returns-in_err-group : goal.returns-in_err-group
returns-in_err-group c =
    let g = grammar_of c.args.sheet.now in
    let o = c.args.met.occurrence in
    let a = c.args.met.attribute in
    let m = rule_missing g c.from.result c.rule.result c.rule.ensures.rule c.in_err-group.was in
    let none : (rule g c.args.node.rule).equations ≡ [] = ap (λ k. (rule g k).equations) (sym c.from.ensures) ∙ ap (λ r. r.equations) m in
    subst (λ r. MatchOption r (NoEquation o a (rule g c.args.node.rule).equations) (λ x. equation o a (rule g c.args.node.rule).equations ≡ equation_of x.now))
    (sym c.from_residual.ensures) (subst (NoEquation o a) (sym none) (none_in_nothing o a))

pub returns : goal.returns
returns c =
    let g = grammar_of c.args.sheet.now in
    let o = c.args.met.occurrence in
    let a = c.args.met.attribute in
    let m = rule_found g c.from.result c.rule.result c.in_ok-group.group c.rule.ensures.rule c.in_ok-group.was in
    subst (λ qs. MatchOption c.equation_for.result (NoEquation o a qs) (λ x. equation o a qs ≡ equation_of x.now))
    (sym (ap (λ k. (rule g k).equations) (sym c.from.ensures) ∙ ap (λ r. r.equations) m)) (equation_looked o a c.in_ok-group.group.equations.now c.equation_for.result c.equation_for.ensures)
