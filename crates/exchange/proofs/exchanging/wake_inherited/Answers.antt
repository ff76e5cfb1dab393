use Rattle.std.proofs.Common.{◌≡◌, ◌&&◌, Some, subst, arith, rules}
use Rattle.std.specs.Option.{option_map}
use Rattle.std.specs.List.{slice_get}
use Rattle.grammar.specs.Scopes.{flows, takes}
use Rattle.grammar.specs.declared.terms.Flow.TheVariants.{Inherited}
use Rattle.plans.specs.Groups.{group_scope}
use Rattle.sheet.specs.Answers.{grammar_of, group_rule}
use Rattle.tour.specs.Rules.{rule}
use Rattle.tour.specs.Nodes.{attributes_of}
use Rattle.places.specs.Places.{at, table}
use Rattle.exchange.specs.Takers.{Fits, FitsThere}
use Rattle.exchange.specs.Waking.{is_at}
use Rattle.exchange.proofs.Flows.{taken_left, inherited_more, inherited_all}
use Rattle.exchange.proofs.Marking.{woke_more, woke_as}
use Rattle.exchange.proofs.Sheets.{sound_sheet, few_attributes}
use Rattle.exchange.proofs.Targets.{rule_there}
use Rattle.exchange.proofs.exchanging.wake_inherited.Goals as goal

pub returns-in_default-rule : goal.returns-in_default-rule
returns-in_default-rule c =
    let g = grammar_of c.args.sheet.now in
    let ps = c.args.places.now in
    let e : at ps c.args.p ≡ Some c.in-Some.node = search rules in
    let f : Fits g ps c.in-Some.node = subst (FitsThere g ps) e c.requires in
    absurd (rule_there g c.in-Some.node.rule f.rule_there (search rules))

pub loop-a-preserved : goal.loop-a-preserved
loop-a-preserved c =
    let g = grammar_of c.args.sheet.now in
    let ps = c.args.places.now in
    let k = c.in-Some-rule.group in
    let e : at ps c.args.p ≡ Some c.in-Some.node = search rules in
    let r : option_map group_rule (Some k) ≡ slice_get g.rules c.in-Some.node.rule = search rules in
    let s : (group_scope k).symbols ≡ g.symbols = search rules in
    woke_more ps c.loop-a.places c.wake_if_inherited.new.places _ (λ x. is_at c.args.p c.loop-a.a x && takes (group_scope k) 0 c.loop-a.a) _
    (inherited_more (λ a. flows Inherited (slice_get (attributes_of g (table g ps) c.args.p) a)) c.args.p c.loop-a.a (takes (group_scope k) 0 c.loop-a.a) (taken_left g ps c.args.p c.loop-a.a c.in-Some.node k e r s))
    c.loop-a.invariant c.wake_if_inherited.ensures

pub returns : goal.returns
returns c =
    let g = grammar_of c.args.sheet.now in
    let ps = c.args.places.now in
    let e : at ps c.args.p ≡ Some c.in-Some.node = search rules in
    let f : Fits g ps c.in-Some.node = subst (FitsThere g ps) e c.requires in
    let few = few_attributes g (rule g (table g ps c.args.p).rule).left (sound_sheet c.args.sheet.now c.in-Some.node.rule f.rule_there) in
    woke_as ps c.loop-a.places _ _ (inherited_all (attributes_of g (table g ps) c.args.p) c.args.p c.loop-a.a (omega arith)) c.loop-a.invariant
