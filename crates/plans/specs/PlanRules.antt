-- The rules of a plan, as statements about what stands in it and what stands before what.
use Rattle.std.specs.Prelude.{◌≡◌, ℕ, zero, suc, ◌<◌, ◌≤◌, Bool, true, false, List, [], ◌∷◌, ◌++◌, length, take, Some, None, count_by, Option}
use Rattle.std.specs.List.{AllByRecursion, slice_get}
use Rattle.grammar.specs.Model.{Equation}
use Rattle.grammar.specs.Refusals.{rule_number}
use Rattle.grammar.specs.Scopes.{Scope, visits_at, attribute_at, Defined}
use Rattle.grammar.specs.declared.terms.Flow.TheVariants.{Inherited, Synthesized}
use Rattle.grammar.specs.declared.terms.Attribute.{Attribute}
use Rattle.grammar.specs.declared.terms.Argument.{Argument}
use Rattle.grammar.specs.declared.terms.Argument.TheVariants.{Datum, Of}
use Rattle.grammar.specs.declared.terms.Instruction.{Instruction}
use Rattle.grammar.specs.declared.terms.Instruction.TheVariants.{Evaluate, Visit, Return}
use Rattle.grammar.specs.declared.refusal.PlanRule.{PlanRule}
use Rattle.grammar.specs.declared.refusal.PlanRule.TheVariants.{ReturnsInOrder, OneEvaluation, VisitsInOrder, InheritedBeforeVisit, SynthesizedBeforeReturn, ArgumentsFirst}

-- instruction x stands at place i of the plan, counted from 0
abbrev pub Stands : List Instruction → ℕ → Instruction → Type 0
Stands plan i x = slice_get plan i ≡ Some x

-- x stands at i and nowhere else
abbrev pub StandsOnce : List Instruction → ℕ → Instruction → Type 0
StandsOnce plan i x = Stands plan i x × ((m : ℕ) → Stands plan m x → m ≡ i)

-- x stands somewhere before place i
abbrev pub Before : List Instruction → ℕ → Instruction → Type 0
Before plan i x = (m : ℕ) × (m < i) × Stands plan m x

abbrev pub EndsWith : List Instruction → Instruction → Type 0
EndsWith plan x = (before : List Instruction) × (plan ≡ before ++ x ∷ [])

-- the turns t 1 to t n stand once each, in order, and no other turn t j stands
pub record InTurn (plan : List Instruction) (t : ℕ → Instruction) (n : ℕ) : Type 0 where
  pub each : (j : ℕ) → 1 ≤ j → j ≤ n → (i : ℕ) × StandsOnce plan i (t j)
  pub ordered : (i m j l : ℕ) → Stands plan i (t j) → Stands plan m (t l) → j < l → i < m
  pub none_other : (i j : ℕ) → Stands plan i (t j) → (1 ≤ j) × (j ≤ n)

abbrev pub is_return : Instruction → Bool
is_return (Evaluate o a) = false
is_return (Visit k j) = false
is_return (Return j) = true

-- the number of the segment in which place i lies: segment j ends with return j, so it is one more than the returns that
-- stand before place i
abbrev pub segment_at : List Instruction → ℕ → ℕ
segment_at plan i = suc (count_by is_return (take i plan))

-- The returns are 1 to the left symbol's number of visits, in order, and the last one ends the plan.
abbrev pub ReturnsStandInOrder : Scope → List Instruction → Type 0
ReturnsStandInOrder σ plan = InTurn plan Return (visits_at σ 0) × EndsWith plan (Return (visits_at σ 0))

-- Each attribute that the rule defines is evaluated at exactly one place, and no other attribute is evaluated.
abbrev pub HasOneEvaluation : Scope → List Instruction → Type 0
HasOneEvaluation σ plan =
    ((o a : ℕ) → Defined σ o a → (i : ℕ) × StandsOnce plan i (Evaluate o a))
    × ((i o a : ℕ) → Stands plan i (Evaluate o a) → Defined σ o a)

-- All visits of each right occurrence stand once each, in order.
abbrev pub VisitsStandInOrder : Scope → List Instruction → Type 0
VisitsStandInOrder σ plan = (k : ℕ) → 1 ≤ k → k < length σ.occurrences → InTurn plan (Visit k) (visits_at σ k)

-- A visit stands after the evaluation of every inherited attribute of that visit.
abbrev pub InheritedStandBeforeVisit : Scope → List Instruction → Type 0
InheritedStandBeforeVisit σ plan =
    (i k j a : ℕ) → Stands plan i (Visit k j) → attribute_at σ k a ≡ Some (record { flow = Inherited; visit = j }) →
    Before plan i (Evaluate k a)

-- A return stands after the evaluation of every synthesized attribute of the left symbol with that visit.
abbrev pub SynthesizedStandBeforeReturn : Scope → List Instruction → Type 0
SynthesizedStandBeforeReturn σ plan =
    (i j a : ℕ) → Stands plan i (Return j) → attribute_at σ 0 a ≡ Some (record { flow = Synthesized; visit = j }) →
    Before plan i (Evaluate 0 a)

-- attribute values of visit j of occurrence k are known at place i: the visit stands before it; of the left occurrence
-- they come with segment j
abbrev pub KnownAt : List Instruction → ℕ → ℕ → ℕ → Type 0
KnownAt plan i zero j = j ≤ segment_at plan i
KnownAt plan i (suc k) j = Before plan i (Visit (suc k) j)

abbrev pub Known : Scope → List Instruction → ℕ → Argument → Type 0
Known σ plan i Datum = Unit {0}
Known σ plan i (Of k b) = (x : Attribute) → attribute_at σ k b ≡ Some x → KnownAt plan i k x.visit

-- An evaluation stands after the visits of its arguments from right occurrences, and no earlier than the segments of
-- its arguments from the left one.
abbrev pub ArgumentsStandFirst : Scope → List Equation → List Instruction → Type 0
ArgumentsStandFirst σ equations plan =
    (i o a q : ℕ) (e : Equation) → Stands plan i (Evaluate o a) → slice_get equations q ≡ Some e → e.occurrence ≡ o → e.attribute ≡ a →
    AllByRecursion (Known σ plan i) e.arguments

-- what each rule says
abbrev pub Holds : PlanRule → Scope → List Equation → List Instruction → Type 0
Holds ReturnsInOrder σ equations plan = ReturnsStandInOrder σ plan
Holds OneEvaluation σ equations plan = HasOneEvaluation σ plan
Holds VisitsInOrder σ equations plan = VisitsStandInOrder σ plan
Holds InheritedBeforeVisit σ equations plan = InheritedStandBeforeVisit σ plan
Holds SynthesizedBeforeReturn σ equations plan = SynthesizedStandBeforeReturn σ plan
Holds ArgumentsFirst σ equations plan = ArgumentsStandFirst σ equations plan

-- a plan that meets every rule
abbrev pub Planned : Scope → List Equation → List Instruction → Type 0
Planned σ equations plan = (p : PlanRule) → Holds p σ equations plan

-- no rule is broken; or rule p is, and every rule of a lesser number holds
abbrev pub FirstBroken : Scope → List Equation → List Instruction → Option PlanRule → Type 0
FirstBroken σ equations plan None = Planned σ equations plan
FirstBroken σ equations plan (Some p) =
    (Holds p σ equations plan → ⊥) × ((q : PlanRule) → rule_number q < rule_number p → Holds q σ equations plan)
