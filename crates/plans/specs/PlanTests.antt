-- The rules of a plan as tests that compute.
use Rattle.std.specs.Prelude.{ℕ, zero, suc, ◌-◌, Bool, true, false, not, ◌&&◌, ◌||◌, List, [], ◌∷◌, length, take, Some, None, Option, ◌==◌, nat_le}
use Rattle.std.specs.List.{slice_get}
use Rattle.std.specs.Str.{bytes_eq}
use Rattle.grammar.specs.Model.{Equation}
pub use Rattle.grammar.specs.Rows.{targets}
use Rattle.grammar.specs.Tests.{every, some, every_below}
use Rattle.grammar.specs.Scopes.{Scope, visits_at, attributes_at, attribute_at, same_flow, defines}
use Rattle.grammar.specs.declared.terms.Flow.{Flow}
use Rattle.grammar.specs.declared.terms.Flow.TheVariants.{Inherited, Synthesized}
use Rattle.grammar.specs.declared.terms.Attribute.{Attribute}
use Rattle.grammar.specs.declared.terms.Argument.{Argument}
use Rattle.grammar.specs.declared.terms.Argument.TheVariants.{Datum, Of}
use Rattle.grammar.specs.declared.terms.Instruction.{Instruction}
use Rattle.grammar.specs.declared.terms.Instruction.TheVariants.{Evaluate, Visit, Return}
use Rattle.grammar.specs.declared.refusal.PlanRule.{PlanRule}
use Rattle.grammar.specs.declared.refusal.PlanRule.TheVariants.{ReturnsInOrder, OneEvaluation, VisitsInOrder, InheritedBeforeVisit, SynthesizedBeforeReturn, ArgumentsFirst}
use Rattle.plans.specs.PlanRules.{InTurn, segment_at}

abbrev pub same_instruction : Instruction → Instruction → Bool
same_instruction (Evaluate o a) (Evaluate p b) = o == p && a == b
same_instruction (Evaluate o a) (Visit k j) = false
same_instruction (Evaluate o a) (Return j) = false
same_instruction (Visit k j) (Evaluate o a) = false
same_instruction (Visit k j) (Visit l i) = k == l && j == i
same_instruction (Visit k j) (Return i) = false
same_instruction (Return j) (Evaluate o a) = false
same_instruction (Return j) (Visit k i) = false
same_instruction (Return j) (Return i) = j == i

abbrev pub stands : Instruction → List Instruction → Bool
stands x plan = some (same_instruction x) plan

abbrev pub stands_before : List Instruction → ℕ → Instruction → Bool
stands_before plan i x = stands x (take i plan)

-- x stands in the plan, once
abbrev pub once_or : Bool → Instruction → List Instruction → Bool → Bool
once_or true x is later = not (stands x is)
once_or false x is later = later

abbrev pub once : Instruction → List Instruction → Bool
once x [] = false
once x (y ∷ is) = once_or (same_instruction x y) x is (once x is)

abbrev pub ends_with : Instruction → List Instruction → Bool
ends_with x [] = false
ends_with x (y ∷ []) = same_instruction x y
ends_with x (y ∷ z ∷ is) = ends_with x (z ∷ is)

abbrev pub keep_if : Bool → ℕ → List ℕ → List ℕ
keep_if true j js = j ∷ js
keep_if false j js = js

-- a visit to occurrence o is a turn of occurrence k, which is a right one
abbrev pub visit_turn : ℕ → ℕ → Bool
visit_turn zero o = false
visit_turn (suc k) o = o == suc k

-- the turns of occurrence k in the order of the plan: the visits to a right occurrence, the returns of the left one
abbrev pub turns_of : ℕ → List Instruction → List ℕ
turns_of k [] = []
turns_of k (Evaluate o a ∷ is) = turns_of k is
turns_of k (Visit o j ∷ is) = keep_if (visit_turn k o) j (turns_of k is)
turns_of k (Return j ∷ is) = keep_if (0 == k) j (turns_of k is)

-- n numbers from k on
abbrev pub numbers_from : ℕ → ℕ → List ℕ
numbers_from k zero = []
numbers_from k (suc n) = k ∷ numbers_from (suc k) n

abbrev pub in_order : Scope → List Instruction → ℕ → Bool
in_order σ plan k = bytes_eq (turns_of k plan) (numbers_from 1 (visits_at σ k))

-- what it tests: the turns of an occurrence are 1 to its number of visits, once each, in order
abbrev pub TurnsInOrder : Scope → List Instruction → ℕ → Type 0
TurnsInOrder σ plan zero = InTurn plan Return (visits_at σ 0)
TurnsInOrder σ plan (suc k) = InTurn plan (Visit (suc k)) (visits_at σ (suc k))

abbrev pub evaluates_defined : Scope → Instruction → Bool
evaluates_defined σ (Evaluate o a) = defines σ o a
evaluates_defined σ (Visit k j) = true
evaluates_defined σ (Return j) = true

abbrev pub evaluates_once : Scope → List Instruction → ℕ → ℕ → Bool
evaluates_once σ plan o a = not (defines σ o a) || once (Evaluate o a) plan

abbrev pub attribute_is : Flow → ℕ → Option Attribute → Bool
attribute_is f j None = false
attribute_is f j (Some x) = same_flow x.flow f && x.visit == j

-- each attribute of occurrence o with that flow and visit j is evaluated before place i
abbrev pub evaluated_before : Scope → List Instruction → ℕ → Flow → ℕ → ℕ → Bool
evaluated_before σ plan i f o j = every_below (λ a. not (attribute_is f j (attribute_at σ o a)) || stands_before plan i (Evaluate o a)) (attributes_at σ o)

abbrev pub visit_ready : Scope → List Instruction → ℕ → Option Instruction → Bool
visit_ready σ plan i None = true
visit_ready σ plan i (Some (Evaluate o a)) = true
visit_ready σ plan i (Some (Visit k j)) = evaluated_before σ plan i Inherited k j
visit_ready σ plan i (Some (Return j)) = true

abbrev pub return_ready : Scope → List Instruction → ℕ → Option Instruction → Bool
return_ready σ plan i None = true
return_ready σ plan i (Some (Evaluate o a)) = true
return_ready σ plan i (Some (Visit k j)) = true
return_ready σ plan i (Some (Return j)) = evaluated_before σ plan i Synthesized 0 j

-- what an instruction asks of the attributes of one flow
abbrev pub flow_ready : Flow → Scope → List Instruction → ℕ → Option Instruction → Bool
flow_ready Inherited σ plan i o = visit_ready σ plan i o
flow_ready Synthesized σ plan i o = return_ready σ plan i o

abbrev pub known_at : List Instruction → ℕ → ℕ → ℕ → Bool
known_at plan i zero j = nat_le j (segment_at plan i)
known_at plan i (suc k) j = stands_before plan i (Visit (suc k) j)

abbrev pub known_or : List Instruction → ℕ → ℕ → Option Attribute → Bool
known_or plan i k None = true
known_or plan i k (Some x) = known_at plan i k x.visit

abbrev pub known : Scope → List Instruction → ℕ → Argument → Bool
known σ plan i Datum = true
known σ plan i (Of k b) = known_or plan i k (attribute_at σ k b)

abbrev pub evaluation_ready : Scope → List Equation → List Instruction → ℕ → Option Instruction → Bool
evaluation_ready σ equations plan i None = true
evaluation_ready σ equations plan i (Some (Evaluate o a)) = every (λ e. not (targets e o a) || every (known σ plan i) e.arguments) equations
evaluation_ready σ equations plan i (Some (Visit k j)) = true
evaluation_ready σ equations plan i (Some (Return j)) = true

abbrev pub passes : PlanRule → Scope → List Equation → List Instruction → Bool
passes ReturnsInOrder σ equations plan = in_order σ plan 0 && ends_with (Return (visits_at σ 0)) plan
passes OneEvaluation σ equations plan =
    every_below (λ o. every_below (evaluates_once σ plan o) (attributes_at σ o)) (length σ.occurrences) && every (evaluates_defined σ) plan
passes VisitsInOrder σ equations plan = every_below (λ k. in_order σ plan (suc k)) (length σ.occurrences - 1)
passes InheritedBeforeVisit σ equations plan = every_below (λ i. visit_ready σ plan i (slice_get plan i)) (length plan)
passes SynthesizedBeforeReturn σ equations plan = every_below (λ i. return_ready σ plan i (slice_get plan i)) (length plan)
passes ArgumentsFirst σ equations plan = every_below (λ i. evaluation_ready σ equations plan i (slice_get plan i)) (length plan)

abbrev pub broken_or : Bool → PlanRule → Option PlanRule → Option PlanRule
broken_or true p later = later
broken_or false p later = Some p

abbrev pub first_of : List PlanRule → Scope → List Equation → List Instruction → Option PlanRule
first_of [] σ equations plan = None
first_of (p ∷ ps) σ equations plan = broken_or (passes p σ equations plan) p (first_of ps σ equations plan)

abbrev pub plan_rules : List PlanRule
plan_rules = ReturnsInOrder ∷ OneEvaluation ∷ VisitsInOrder ∷ InheritedBeforeVisit ∷ SynthesizedBeforeReturn ∷ ArgumentsFirst ∷ []

-- the broken rule of least number
abbrev pub first_broken : Scope → List Equation → List Instruction → Option PlanRule
first_broken σ equations plan = first_of plan_rules σ equations plan
