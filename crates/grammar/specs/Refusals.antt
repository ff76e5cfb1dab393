-- The numbers of refusals, their layers, and the numbers of the plan rules.
use Rattle.std.specs.Prelude.{ℕ}
use Rattle.grammar.specs.declared.refusal.PlanRule.{PlanRule}
use Rattle.grammar.specs.declared.refusal.PlanRule.TheVariants.{ReturnsInOrder, OneEvaluation, VisitsInOrder, InheritedBeforeVisit, SynthesizedBeforeReturn, ArgumentsFirst}
use Rattle.grammar.specs.declared.refusal.Refusal.{Refusal}
use Rattle.grammar.specs.declared.refusal.Refusal.TheVariants.{Length, LineForm, Range, Absent, Start, Target, BadArgument, Plan}
use Rattle.grammar.specs.declared.refusal.Layer.{Layer}
use Rattle.grammar.specs.declared.refusal.Layer.TheVariants.{OfText, OfGrammar, OfPlan}

abbrev pub rule_number : PlanRule → ℕ
rule_number ReturnsInOrder = 1
rule_number OneEvaluation = 2
rule_number VisitsInOrder = 3
rule_number InheritedBeforeVisit = 4
rule_number SynthesizedBeforeReturn = 5
rule_number ArgumentsFirst = 6

abbrev pub refusal_number : Refusal → ℕ
refusal_number Length = 1
refusal_number LineForm = 2
refusal_number Range = 3
refusal_number Absent = 4
refusal_number Start = 5
refusal_number Target = 6
refusal_number BadArgument = 7
refusal_number (Plan p) = 8

abbrev pub layer_of : Refusal → Layer
layer_of Length = OfText
layer_of LineForm = OfText
layer_of Range = OfText
layer_of Absent = OfGrammar
layer_of Start = OfGrammar
layer_of Target = OfGrammar
layer_of BadArgument = OfGrammar
layer_of (Plan p) = OfPlan
