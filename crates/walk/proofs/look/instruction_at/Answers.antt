use Rattle.std.proofs.Common.{sym, ap, ◌∙◌}
use Rattle.std.specs.List.{slice_get}
use Rattle.grammar.proofs.Elements.{item_nth}
use Rattle.sheet.specs.Answers.{grammar_of}
use Rattle.tour.specs.Rules.{rule}
use Rattle.walk.proofs.Looking.{plan_of, rule_found, rule_missing}
use Rattle.walk.proofs.look.instruction_at.Goals as goal

pub returns-in_err-group : goal.returns-in_err-group
returns-in_err-group c =
    let g = grammar_of c.args.sheet.now in
    let n = c.in_ok-node.node in
    let e = plan_of g c.args.places.now c.args.place n (sym c.node_at.ensures ∙ c.in_ok-node.was) in
    let m = rule_missing g c.from.result c.rule.result c.rule.ensures.rule c.in_err-group.was in
    c.from_residual-in_err-group.ensures ∙ sym (ap (λ l. slice_get l c.args.number) (e ∙ ap (λ k. (rule g k).plan) (sym c.from.ensures) ∙ ap (λ r. r.plan) m))

pub returns : goal.returns
returns c =
    let g = grammar_of c.args.sheet.now in
    let n = c.in_ok-node.node in
    let e = plan_of g c.args.places.now c.args.place n (sym c.node_at.ensures ∙ c.in_ok-node.was) in
    let m = rule_found g c.from.result c.rule.result c.in_ok-group.group c.rule.ensures.rule c.in_ok-group.was in
    c.copied.ensures ∙ item_nth _ _ _ c.get.ensures.lookup ∙ ap (slice_get _) c.from-2.ensures ∙ sym (ap (λ l. slice_get l c.args.number) (e ∙ ap (λ k. (rule g k).plan) (sym c.from.ensures) ∙ ap (λ r. r.plan) m))
