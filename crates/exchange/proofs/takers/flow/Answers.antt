use Rattle.std.proofs.Common.{◌≡◌, ℕ, ◌<◌, length, Some, None, Option, IfSome, MatchOption, sym, ap, ◌∙◌, rules}
use Rattle.std.specs.Option.{option_map}
use Rattle.std.specs.List.{slice_get, slice_index_or}
use Rattle.grammar.specs.Model.{Grammar}
use Rattle.grammar.specs.Scopes.{attribute_at}
use Rattle.grammar.specs.declared.terms.Attribute.{Attribute}
use Rattle.grammar.specs.declared.terms.Flow.{Flow}
use Rattle.plans.specs.Groups.{group_scope}
use Rattle.plans.specs.declared.Group.{Group}
use Rattle.sheet.specs.Answers.{grammar_of, group_rule}
use Rattle.tour.specs.Rules.{rule, symbol, no_attribute}
use Rattle.exchange.proofs.Flows.{flow_in, flow_left}
use Rattle.exchange.proofs.Targets.{rule_there}
use Rattle.exchange.proofs.takers.flow.Goals as goal

-- the flow that was found is the one that the rule's left symbol has
flow_found : (g : Grammar) (r a : ℕ) (o : Option Group) (m : Option Attribute) (f : Flow) → r < length g.rules → option_map group_rule o ≡ slice_get g.rules r → IfSome o (λ k. (group_scope k).symbols ≡ g.symbols)
    → MatchOption o (m ≡ None) (λ k. m ≡ attribute_at (group_scope k) 0 a) → f ≡ flow_in m → f ≡ (slice_index_or (symbol g (rule g r).left).attributes a no_attribute).flow
flow_found g r a None m f l e s n h = absurd (rule_there g r l (sym e))
flow_found g r a (Some k) m f l e s n h = h ∙ ap flow_in n ∙ flow_left g r a k e s

pub returns : goal.returns
returns c = flow_found (grammar_of c.args.sheet.now) c.args.number c.args.attribute c.rule.result c.and_then.result c.map_or.result c.requires (c.rule.ensures.rule ∙ ap (slice_get (grammar_of c.args.sheet.now).rules) c.from.ensures) c.rule.ensures.symbols
    (search rules) (search rules)
