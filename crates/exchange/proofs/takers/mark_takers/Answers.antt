use Rattle.std.proofs.Common.{◌≡◌, map, Some, ap, subst, rules}
use Rattle.std.specs.Option.{option_map}
use Rattle.std.specs.List.{slice_get}
use Rattle.grammar.specs.Rows.{equation_of}
use Rattle.sheet.specs.Answers.{grammar_of, group_rule}
use Rattle.tour.specs.Rules.{rule}
use Rattle.tour.specs.Trees.{at_of}
use Rattle.places.specs.Places.{at, arity, firsts}
use Rattle.exchange.specs.Takers.{Fits, FitsThere, wakes}
use Rattle.exchange.proofs.Marking.{woke_more, woke_as}
use Rattle.exchange.proofs.Sheets.{sound_sheet}
use Rattle.exchange.proofs.Targets.{Ready, rule_there, used_within, fits_used, ready, takers_more, takers_all, group_rule_lem}
use Rattle.exchange.proofs.takers.mark_takers.Goals as goal

pub returns-in_default-rule : goal.returns-in_default-rule
returns-in_default-rule c =
    let g = grammar_of c.args.sheet.now in
    let ps = c.args.places.now in
    let node = c.in-Some.node in
    let e : at ps c.args.p ≡ Some node = search rules in
    let f : Fits g ps node = subst (FitsThere g ps) e c.requires in
    absurd (rule_there g node.rule f.rule_there (search rules))

pub wake_target-requires : goal.wake_target-requires
wake_target-requires c =
    let g = grammar_of c.args.sheet.now in
    let ps = c.args.places.now in
    let node = c.in-Some.node in
    let e : at ps c.args.p ≡ Some node = search rules in
    let f : Fits g ps node = subst (FitsThere g ps) e c.requires in
    let l = used_within ps c.args.p (fits_used g ps c.args.p c.requires) in
    let es = c.in-Some-rule.group.equations.now in
    let k : option_map group_rule (Some c.in-Some-rule.group) ≡ slice_get g.rules node.rule = search rules in
    let same : map equation_of es ≡ (rule g node.rule).equations = ap (λ ρ. ρ.equations) (group_rule_lem g node.rule c.in-Some-rule.group k) in
    let t : Ready g ps c.args.p node c.equation-item.result = ready g ps c.args.p node (sound_sheet c.args.sheet.now node.rule f.rule_there) f l es same c.loop-equation.equation-index c.equation-item.result c.loop-equation-test.true c.equation-item.is in
    t.attribute

pub loop-equation-preserved : goal.loop-equation-preserved
loop-equation-preserved c =
    let g = grammar_of c.args.sheet.now in
    let ps = c.args.places.now in
    let node = c.in-Some.node in
    let e : at ps c.args.p ≡ Some node = search rules in
    let f : Fits g ps node = subst (FitsThere g ps) e c.requires in
    let l = used_within ps c.args.p (fits_used g ps c.args.p c.requires) in
    let es = c.in-Some-rule.group.equations.now in
    let k : option_map group_rule (Some c.in-Some-rule.group) ≡ slice_get g.rules node.rule = search rules in
    let same : map equation_of es ≡ (rule g node.rule).equations = ap (λ ρ. ρ.equations) (group_rule_lem g node.rule c.in-Some-rule.group k) in
    let t : Ready g ps c.args.p node c.equation-item.result = ready g ps c.args.p node (sound_sheet c.args.sheet.now node.rule f.rule_there) f l es same c.loop-equation.equation-index c.equation-item.result c.loop-equation-test.true c.equation-item.is in
    let kids = at_of c.args.p (firsts (arity g node.rule) node.children) in
    woke_more ps c.loop-equation.places c.wake_target.new.places _ (wakes (at_of c.args.p node.children) c.args.from (equation_of c.equation-item.result)) _ (takers_more kids (at_of c.args.p node.children) c.args.from es c.loop-equation.equation-index c.equation-item.result c.loop-equation-test.true c.equation-item.is t.kid) c.loop-equation.invariant c.wake_target.ensures

pub returns : goal.returns
returns c =
    let g = grammar_of c.args.sheet.now in
    let ps = c.args.places.now in
    let node = c.in-Some.node in
    let e : at ps c.args.p ≡ Some node = search rules in
    let es = c.in-Some-rule.group.equations.now in
    let k : option_map group_rule (Some c.in-Some-rule.group) ≡ slice_get g.rules node.rule = search rules in
    let same : map equation_of es ≡ (rule g node.rule).equations = ap (λ ρ. ρ.equations) (group_rule_lem g node.rule c.in-Some-rule.group k) in
    woke_as ps c.loop-equation.places _ _ (takers_all g ps c.args.p node c.args.from e es c.loop-equation.equation-index c.loop-equation-test.false same) c.loop-equation.invariant
