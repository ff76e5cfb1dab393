-- Symbols and rules of a grammar by their numbers, and what a rule's equations take.
use Rattle.std.specs.Prelude.{◌≡◌, ℕ, ◌<◌, [], ◌∷◌, length, slice_index, slice_index_or}
use Rattle.grammar.specs.Model.{Symbol, Equation, Rule, Grammar}
use Rattle.grammar.specs.declared.terms.Flow.{Flow}
use Rattle.grammar.specs.declared.terms.Flow.TheVariants.{Inherited}
use Rattle.grammar.specs.declared.terms.Attribute.{Attribute}
use Rattle.grammar.specs.declared.terms.Argument.TheVariants.{Of}
use Rattle.tour.specs.Runs.{In}

-- what stands where there is no such symbol, rule or attribute
abbrev pub no_symbol : Symbol
no_symbol = record { visits = 0; attributes = [] }

abbrev pub no_rule : Rule
no_rule = record { left = 0; right = []; equations = []; plan = [] }

abbrev pub no_attribute : Attribute
no_attribute = record { flow = Inherited; visit = 0 }

abbrev pub symbol : Grammar → ℕ → Symbol
symbol σ x = slice_index_or σ.symbols x no_symbol

abbrev pub rule : Grammar → ℕ → Rule
rule σ r = slice_index_or σ.rules r no_rule

-- the symbol of an occurrence
abbrev pub occurs : Rule → ℕ → ℕ
occurs ρ o = slice_index (ρ.left ∷ ρ.right) o

-- the symbol x has an attribute number a, of that flow and visit
abbrev pub Has : Grammar → ℕ → ℕ → Flow → ℕ → Type 0
Has σ x a k j = (a < length (symbol σ x).attributes) × (slice_index_or (symbol σ x).attributes a no_attribute ≡ record { flow = k; visit = j })

-- some equation of the rule with the target o.a takes p.b
abbrev pub Takes : Rule → ℕ → ℕ → ℕ → ℕ → Type 0
Takes ρ o a p b = (q : Equation) × In q ρ.equations × (q.occurrence ≡ o) × (q.attribute ≡ a) × In (Of p b) q.arguments
