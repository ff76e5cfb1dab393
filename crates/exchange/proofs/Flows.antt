-- The flow of an attribute, as a sheet answers it.
use Rattle.std.proofs.Common.{◌≡◌, ℕ, zero, suc, ◌+◌, ◌≤◌, Bool, true, false, ◌&&◌, ◌||◌, eqb, ltb, List, [], ◌∷◌, length, get_or, Some, None, Option, sym, refl, ap, ◌∙◌, ap₂, arith, ltb-false, le-ltb, lt-ltb, eqb-true}
use borrow.Author.Tests.{eqb-false}
use Rattle.std.proofs.lemmas.Option.{slice_get_past}
use Rattle.std.proofs.lemmas.Bool.Decides.{nat_tests}
use Rattle.std.specs.Option.{option_map}
use Rattle.std.specs.List.{slice_get}
use Rattle.grammar.specs.Model.{Symbol, Rule, Grammar}
use Rattle.grammar.specs.Scopes.{attribute_at, flows, takes}
use Rattle.grammar.specs.Tests.{and_then}
use Rattle.grammar.specs.declared.terms.Attribute.{Attribute}
use Rattle.grammar.specs.declared.terms.Flow.{Flow}
use Rattle.grammar.specs.declared.terms.Flow.TheVariants.{Inherited}
use Rattle.plans.specs.Groups.{group_scope}
use Rattle.plans.specs.declared.Group.{Group}
use Rattle.sheet.specs.Answers.{group_rule}
use Rattle.tour.specs.Rules.{rule, symbol, no_symbol, no_attribute}
use Rattle.tour.specs.Trees.{Instance}
use Rattle.tour.specs.Nodes.{attributes_of}
use Rattle.places.specs.Places.{at, table, cell_of}
use Rattle.places.specs.declared.node.Node.{Node}
use Rattle.exchange.specs.Waking.{is_at}
use Rattle.exchange.proofs.Targets.{group_rule_lem}

abbrev pub flow_in : Option Attribute → Flow
flow_in None = Inherited
flow_in (Some x) = x.flow

flow_nth : (xs : List Attribute) (a : ℕ) → flow_in (slice_get xs a) ≡ (get_or xs a no_attribute).flow
flow_nth [] a = refl
flow_nth (x ∷ xs) zero = refl
flow_nth (x ∷ xs) (suc a) = flow_nth xs a

flow_there : (ss : List Symbol) (l a : ℕ) → flow_in (and_then (slice_get ss l) (λ s. slice_get s.attributes a)) ≡ (get_or (get_or ss l no_symbol).attributes a no_attribute).flow
flow_there [] l a = refl
flow_there (s ∷ ss) zero a = flow_nth s.attributes a
flow_there (s ∷ ss) (suc l) a = flow_there ss l a

pub flow_left : (g : Grammar) (r a : ℕ) (k : Group) → option_map group_rule (Some k) ≡ slice_get g.rules r → (group_scope k).symbols ≡ g.symbols → flow_in (attribute_at (group_scope k) 0 a) ≡ (get_or (symbol g (rule g r).left).attributes a no_attribute).flow
flow_left g r a k e s =
    flow_there (group_scope k).symbols k.production.left a
    ∙ ap₂ (λ (ss : List Symbol) (ρ : Rule). (get_or (get_or ss ρ.left no_symbol).attributes a no_attribute).flow) s (group_rule_lem g r k e)

attribute_there : (ss : List Symbol) (l a : ℕ) → and_then (slice_get ss l) (λ s. slice_get s.attributes a) ≡ slice_get (get_or ss l no_symbol).attributes a
attribute_there [] l a = refl
attribute_there (s ∷ ss) zero a = refl
attribute_there (s ∷ ss) (suc l) a = attribute_there ss l a

-- what a node's rule takes from above
pub taken_left : (g : Grammar) (ps : List (Option Node)) (p a : ℕ) (n : Node) (k : Group) → at ps p ≡ Some n → option_map group_rule (Some k) ≡ slice_get g.rules n.rule → (group_scope k).symbols ≡ g.symbols → flows Inherited (slice_get (attributes_of g (table g ps) p) a) ≡ takes (group_scope k) 0 a
taken_left g ps p a n k there e s =
    sym (
    ap (flows Inherited) (attribute_there (group_scope k).symbols k.production.left a)
    ∙ ap₂ (λ (ss : List Symbol) (ρ : Rule). flows Inherited (slice_get (get_or ss ρ.left no_symbol).attributes a)) s (group_rule_lem g n.rule k e)
    ∙ ap (λ z. flows Inherited (slice_get (symbol g (rule g (cell_of g z).rule).left).attributes a)) (sym there)
    )

-- one attribute more
pub inherited_more : (taken : ℕ → Bool) (p a : ℕ) (b : Bool) → taken a ≡ b → (x : Instance) → (ltb x.1 (a + 1) && (eqb x.0 p && taken x.1)) ≡ ((ltb x.1 a && (eqb x.0 p && taken x.1)) || (is_at p a x && b))
inherited_more taken p a b e x = by (eqb x.1 a) refl
  where
    by : (t : Bool) → eqb x.1 a ≡ t → (ltb x.1 (a + 1) && (eqb x.0 p && taken x.1)) ≡ ((ltb x.1 a && (eqb x.0 p && taken x.1)) || (is_at p a x && b))
    by true h =
        let k : x.1 ≡ a = eqb-true x.1 a h in
        let f : taken x.1 ≡ b = ap taken k ∙ e in
        let u : ltb x.1 (a + 1) ≡ true = lt-ltb x.1 (a + 1) (omega arith) in
        let v : ltb x.1 a ≡ false = le-ltb x.1 a (omega arith) in
        grind (arith, nat_tests)
    by false h =
        let u : ltb x.1 (a + 1) ≡ ltb x.1 a = (let k = eqb-false x.1 a h in grind (arith, nat_tests)) in
        grind (arith, nat_tests)

-- all of them
pub inherited_all : (xs : List Attribute) (p i : ℕ) → length xs ≤ i → (x : Instance) → (ltb x.1 i && (eqb x.0 p && flows Inherited (slice_get xs x.1))) ≡ (eqb x.0 p && flows Inherited (slice_get xs x.1))
inherited_all xs p i l x = by (ltb x.1 i) refl
  where
    by : (b : Bool) → ltb x.1 i ≡ b → (ltb x.1 i && (eqb x.0 p && flows Inherited (slice_get xs x.1))) ≡ (eqb x.0 p && flows Inherited (slice_get xs x.1))
    by true e = ap (λ b. b && (eqb x.0 p && flows Inherited (slice_get xs x.1))) e
    by false e =
        let z : flows Inherited (slice_get xs x.1) ≡ false = ap (flows Inherited) (slice_get_past xs x.1 (let k = ltb-false x.1 i e in omega arith)) in
        grind (arith, nat_tests)
