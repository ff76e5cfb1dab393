-- The attributes at the occurrences of one rule.
use Rattle.std.specs.Prelude.{◌≡◌, ℕ, zero, suc, Bool, true, false, ◌&&◌, List, ◌∷◌, map, length, is_some, Some, None, Option, nat_le}
use Rattle.std.specs.List.{slice_get}
use Rattle.grammar.specs.Tests.{and_then}
use Rattle.grammar.specs.Model.{Symbol}
use Rattle.grammar.specs.Rows.{symbol_of}
use Rattle.grammar.specs.declared.terms.Flow.{Flow}
use Rattle.grammar.specs.declared.terms.Flow.TheVariants.{Inherited, Synthesized}
use Rattle.grammar.specs.declared.terms.Attribute.{Attribute}
use Rattle.grammar.specs.declared.terms.Argument.{Argument}
use Rattle.grammar.specs.declared.terms.Argument.TheVariants.{Datum, Of}
use Rattle.grammar.specs.declared.terms.Instruction.{Instruction}
use Rattle.grammar.specs.declared.terms.Instruction.TheVariants.{Evaluate, Visit, Return}
use Rattle.grammar.specs.declared.production.Production.{Production}

-- the symbols of a grammar, and which of them stand at the occurrences of a rule, the left one first
pub record Scope : Type 0 where
  pub symbols : List Symbol
  pub occurrences : List ℕ

abbrev pub scope_of : Production → Scope
scope_of p = record { symbols = map symbol_of p.symbols.now; occurrences = p.left ∷ p.right.now }

abbrev pub symbol_at : Scope → ℕ → Option Symbol
symbol_at σ o = and_then (slice_get σ.occurrences o) (λ x. slice_get σ.symbols x)

abbrev pub visits_in : Option Symbol → ℕ
visits_in None = 0
visits_in (Some s) = s.visits

-- the visits of an occurrence; 0 if it is not there
abbrev pub visits_at : Scope → ℕ → ℕ
visits_at σ o = visits_in (symbol_at σ o)

abbrev pub attributes_in : Option Symbol → ℕ
attributes_in None = 0
attributes_in (Some s) = length s.attributes

-- how many attributes an occurrence has
abbrev pub attributes_at : Scope → ℕ → ℕ
attributes_at σ o = attributes_in (symbol_at σ o)

-- an attribute of an occurrence, if it is there
abbrev pub attribute_at : Scope → ℕ → ℕ → Option Attribute
attribute_at σ o a = and_then (symbol_at σ o) (λ s. slice_get s.attributes a)

abbrev pub same_flow : Flow → Flow → Bool
same_flow Inherited Inherited = true
same_flow Inherited Synthesized = false
same_flow Synthesized Inherited = false
same_flow Synthesized Synthesized = true

abbrev pub flows : Flow → Option Attribute → Bool
flows f None = false
flows f (Some x) = same_flow x.flow f

-- the flow at an occurrence, where it is f at the left one and the other way round at the others
abbrev pub flow_at : Flow → ℕ → Flow
flow_at f zero = f
flow_at Inherited (suc k) = Synthesized
flow_at Synthesized (suc k) = Inherited

-- a rule defines the synthesized attributes of its left occurrence and the inherited ones of the others
abbrev pub defined_flow : ℕ → Flow
defined_flow o = flow_at Synthesized o

-- and takes as arguments those that come to it from outside
abbrev pub taken_flow : ℕ → Flow
taken_flow o = flow_at Inherited o

abbrev pub defines : Scope → ℕ → ℕ → Bool
defines σ o a = flows (defined_flow o) (attribute_at σ o a)

abbrev pub takes : Scope → ℕ → ℕ → Bool
takes σ o a = flows (taken_flow o) (attribute_at σ o a)

-- the rule defines the synthesized attributes of occurrence 0 and the inherited ones of the others
abbrev pub Defined : Scope → ℕ → ℕ → Type 0
Defined σ zero a = (j : ℕ) × (attribute_at σ 0 a ≡ Some (record { flow = Synthesized; visit = j }))
Defined σ (suc k) a = (j : ℕ) × (attribute_at σ (suc k) a ≡ Some (record { flow = Inherited; visit = j }))

-- it may take the inherited attributes of occurrence 0 and the synthesized ones of the others
abbrev pub TakenAt : Scope → ℕ → ℕ → Type 0
TakenAt σ zero a = (j : ℕ) × (attribute_at σ 0 a ≡ Some (record { flow = Inherited; visit = j }))
TakenAt σ (suc k) a = (j : ℕ) × (attribute_at σ (suc k) a ≡ Some (record { flow = Synthesized; visit = j }))

abbrev pub argument_there : Scope → Argument → Bool
argument_there σ Datum = true
argument_there σ (Of o a) = is_some (attribute_at σ o a)

abbrev pub argument_taken : Scope → Argument → Bool
argument_taken σ Datum = true
argument_taken σ (Of o a) = takes σ o a

-- j is one of the visits of an occurrence
abbrev pub visit_there : Scope → ℕ → ℕ → Bool
visit_there σ o j = nat_le 1 j && nat_le j (visits_at σ o)

abbrev pub instruction_there : Scope → Instruction → Bool
instruction_there σ (Evaluate o a) = is_some (attribute_at σ o a)
instruction_there σ (Visit k j) = visit_there σ k j
instruction_there σ (Return j) = visit_there σ 0 j
