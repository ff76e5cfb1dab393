-- The names of layers, and the sentences that say what is wrong.
use Rattle.std.specs.Prelude.{ℕ, List, codes}
use Rattle.grammar.specs.declared.refusal.Layer.{Layer}
use Rattle.grammar.specs.declared.refusal.Layer.TheVariants.{OfText, OfGrammar, OfPlan}
use Rattle.grammar.specs.declared.refusal.PlanRule.{PlanRule}
use Rattle.grammar.specs.declared.refusal.PlanRule.TheVariants.{ReturnsInOrder, OneEvaluation, VisitsInOrder, InheritedBeforeVisit, SynthesizedBeforeReturn, ArgumentsFirst}
use Rattle.grammar.specs.declared.refusal.Refusal.{Refusal}
use Rattle.grammar.specs.declared.refusal.Refusal.TheVariants.{Length, LineForm, Range, Absent, Start, Target, BadArgument, Plan}

abbrev pub layer_text : Layer → List ℕ
layer_text OfText = codes "text"
layer_text OfGrammar = codes "grammar"
layer_text OfPlan = codes "plan"

abbrev pub plan_sentence : PlanRule → List ℕ
plan_sentence ReturnsInOrder = codes "The returns of this plan are not r1 up to the last visit of the rule's left symbol, in order, with the last one at the end."
plan_sentence OneEvaluation = codes "An attribute that the rule defines is not evaluated exactly once in this plan, or another one is evaluated."
plan_sentence VisitsInOrder = codes "The visits to some right occurrence do not all stand in this plan once each, in order."
plan_sentence InheritedBeforeVisit = codes "A visit stands in this plan before the evaluation of an inherited attribute that goes down with it."
plan_sentence SynthesizedBeforeReturn = codes "A return stands in this plan before the evaluation of a synthesized attribute that goes up with it."
plan_sentence ArgumentsFirst = codes "An evaluation stands in this plan before the visit that gives one of its arguments, or in an earlier segment than the argument's."

abbrev pub refusal_sentence : Refusal → List ℕ
refusal_sentence Length = codes "A sheet has 1 to 32,768 bytes; this text has none, or more."
refusal_sentence LineForm = codes "This line has not the form of a sheet's line, or may not stand here; or the text ends early."
refusal_sentence Range = codes "A number in this line is outside its range, or there are too many symbols, rules, right symbols, attributes, arguments, sets or instructions."
refusal_sentence Absent = codes "This line names a symbol, an occurrence, an attribute or a visit that is not there."
refusal_sentence Start = codes "The first symbol is the start: it has one visit and no inherited attribute."
refusal_sentence Target = codes "An equation here is for an attribute that the rule does not define or that has one already; or, at a plan, an attribute that the rule defines has no equation."
refusal_sentence BadArgument = codes "An argument is an inherited attribute of the left occurrence, a synthesized one of a right occurrence, or d; one here is none of these."
refusal_sentence (Plan p) = plan_sentence p
