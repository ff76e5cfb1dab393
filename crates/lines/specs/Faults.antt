-- What is wrong with a line, each condition over the whole line, in the order of their numbers.
use Rattle.std.specs.Prelude.{ℕ, Bool, true, false, not, ◌&&◌, ◌||◌, List, [], ◌∷◌, length, is_some, Some, None, Option, ◌==◌, nat_le, nat_lt}
use Rattle.std.specs.Option.{option_map}
use Rattle.grammar.specs.Model.{Symbol, Equation}
use Rattle.grammar.specs.Tests.{every, some, every_below}
use Rattle.grammar.specs.Scopes.{Scope, attributes_at, attribute_at, same_flow, defines, argument_there, argument_taken, instruction_there}
use Rattle.grammar.specs.declared.terms.Flow.TheVariants.{Synthesized}
use Rattle.grammar.specs.declared.terms.Attribute.{Attribute}
use Rattle.grammar.specs.declared.terms.Instruction.{Instruction}
use Rattle.grammar.specs.declared.terms.Instruction.TheVariants.{Evaluate, Visit, Return}
use Rattle.grammar.specs.declared.refusal.Refusal.{Refusal}
use Rattle.grammar.specs.declared.refusal.Refusal.TheVariants.{Range, Absent, Start, Target, BadArgument, Plan}
use Rattle.grammar.specs.Rows.{targets}
use Rattle.plans.specs.PlanTests.{first_broken}

abbrev pub between1 : ℕ → ℕ → Bool
between1 high n = nat_le 1 n && nat_le n high

abbrev pub synthesizes : Attribute → Bool
synthesizes x = same_flow x.flow Synthesized

-- the first symbol is the start: one visit, and no attribute from above
abbrev pub starts : List Symbol → ℕ → List Attribute → Bool
starts [] v xs = v == 1 && every synthesizes xs
starts (s ∷ ss) v xs = true

-- the refusal r if the test fails, else what comes later
abbrev pub failing : Bool → Refusal → Option Refusal → Option Refusal
failing true r later = later
failing false r later = Some r

abbrev pub symbol_fault : List Symbol → ℕ → List Attribute → Option Refusal
symbol_fault symbols v xs =
    failing (between1 4 v && nat_lt (length symbols) 32) Range
    (failing (every (λ x. between1 v x.visit) xs) Absent
    (failing (starts symbols v xs) Start None))

abbrev pub rule_fault : ℕ → ℕ → ℕ → List ℕ → Option Refusal
rule_fault symbols rules l rs =
    failing (nat_lt rules 64) Range
    (failing (every (λ x. nat_lt x symbols) (l ∷ rs)) Absent None)

abbrev pub has_target : List Equation → ℕ → ℕ → Bool
has_target es o a = some (λ e. targets e o a) es

-- what is wrong with an equation in a rule that has the equations es already
abbrev pub set_fault : Scope → List Equation → Equation → Option Refusal
set_fault σ es e =
    failing (is_some (attribute_at σ e.occurrence e.attribute) && every (argument_there σ) e.arguments) Absent
    (failing (defines σ e.occurrence e.attribute && not (has_target es e.occurrence e.attribute)) Target
    (failing (every (argument_taken σ) e.arguments) BadArgument None))

abbrev pub right_visit : Instruction → Bool
right_visit (Evaluate o a) = true
right_visit (Visit k j) = nat_le 1 k
right_visit (Return j) = true

-- each attribute that the rule defines has an equation
abbrev pub complete : Scope → List Equation → Bool
complete σ es = every_below (λ o. every_below (λ a. not (defines σ o a) || has_target es o a) (attributes_at σ o)) (length σ.occurrences)

-- what is wrong with the plan of a rule that has the equations es
abbrev pub plan_fault : Scope → List Equation → List Instruction → Option Refusal
plan_fault σ es is =
    failing (every right_visit is) Range
    (failing (every (instruction_there σ) is) Absent
    (failing (complete σ es) Target
    (option_map Plan (first_broken σ es is))))
