-- What a grammar has to meet, rule by rule.
use Rattle.std.specs.Prelude.{◌≡◌, ℕ, ◌<◌, ◌≤◌, List, ◌∷◌, ◌++◌, length, Some, sum_by}
use Rattle.std.specs.List.{flat_map, AllByRecursion, slice_get}
use Rattle.grammar.specs.Model.{Symbol, Equation, Rule, Grammar}
use Rattle.grammar.specs.Scopes.{Scope, visits_at, attribute_at, Defined, TakenAt}
use Rattle.grammar.specs.declared.terms.Flow.TheVariants.{Synthesized}
use Rattle.grammar.specs.declared.terms.Attribute.{Attribute}
use Rattle.grammar.specs.declared.terms.Argument.{Argument}
use Rattle.grammar.specs.declared.terms.Argument.TheVariants.{Datum, Of}
use Rattle.grammar.specs.declared.terms.Instruction.{Instruction}
use Rattle.grammar.specs.declared.terms.Instruction.TheVariants.{Evaluate, Visit, Return}
use Rattle.grammar.specs.declared.refusal.PlanRule.{PlanRule}
use Rattle.grammar.specs.declared.refusal.Refusal.TheVariants.{Plan}
use Rattle.plans.specs.PlanRules.{Planned, FirstBroken}
use Rattle.reader.specs.Judgement.{judge}
use Rattle.reader.specs.Judgement.Outcome.{sheet, fault}
use Rattle.sheet.specs.Writing.{ended, lines_of, group_of, write}

-- 1 to 4 visits; at most 16 attributes, each known from one of these visits on
pub record SoundSymbol (s : Symbol) : Type 0 where
  pub some_visit : 1 ≤ s.visits
  pub few_visits : s.visits ≤ 4
  pub few_attributes : length s.attributes ≤ 16
  pub visits_there : AllByRecursion (λ x. (1 ≤ x.visit) × (x.visit ≤ s.visits)) s.attributes

-- the start symbol has one visit and no inherited attribute
pub record StartSymbol (s : Symbol) : Type 0 where
  pub one_visit : s.visits ≡ 1
  pub synthesized : AllByRecursion (λ x. x.flow ≡ Synthesized) s.attributes

abbrev pub scope_of_rule : List Symbol → Rule → Scope
scope_of_rule symbols r = record { symbols = symbols; occurrences = r.left ∷ r.right }

-- the datum, an inherited attribute of the left occurrence, or a synthesized one of a right occurrence
abbrev pub Taken : Scope → Argument → Type 0
Taken σ Datum = Unit {0}
Taken σ (Of o a) = TakenAt σ o a

-- an equation is for an attribute that its rule defines
pub record SoundEquation (σ : Scope) (e : Equation) : Type 0 where
  pub small_function : e.function ≤ 255
  pub few_arguments : length e.arguments ≤ 3
  pub target : Defined σ e.occurrence e.attribute
  pub arguments_taken : AllByRecursion (Taken σ) e.arguments

-- equation number q is the only one for attribute a of occurrence o
pub record OnlyEquation (es : List Equation) (q o a : ℕ) : Type 0 where
  pub equation : Equation
  pub stands : slice_get es q ≡ Some equation
  pub occurrence_is : equation.occurrence ≡ o
  pub attribute_is : equation.attribute ≡ a
  pub only : (p : ℕ) (e : Equation) → slice_get es p ≡ Some e → e.occurrence ≡ o → e.attribute ≡ a → p ≡ q

-- an instruction names an attribute or a visit that is there; only right occurrences are visited
abbrev pub There : Scope → Instruction → Type 0
There σ (Evaluate o a) = (x : Attribute) × (attribute_at σ o a ≡ Some x)
There σ (Visit k j) = (1 ≤ k) × (1 ≤ j) × (j ≤ visits_at σ k)
There σ (Return j) = (1 ≤ j) × (j ≤ visits_at σ 0)

pub record SoundRule (symbols : List Symbol) (r : Rule) : Type 0 where
  pub left_there : r.left < length symbols
  pub few_right : length r.right ≤ 4
  pub right_there : AllByRecursion (λ x. x < length symbols) r.right
  pub equations_sound : AllByRecursion (SoundEquation (scope_of_rule symbols r)) r.equations
  -- each attribute that the rule defines has exactly one equation
  pub one_equation : (o a : ℕ) → Defined (scope_of_rule symbols r) o a → (q : ℕ) × OnlyEquation r.equations q o a
  pub instructions_there : AllByRecursion (There (scope_of_rule symbols r)) r.plan
  pub planned : Planned (scope_of_rule symbols r) r.equations r.plan

abbrev pub sets_in : List Rule → ℕ
sets_in rules = sum_by (λ r. length r.equations) rules

abbrev pub instructions_in : List Rule → ℕ
instructions_in rules = sum_by (λ r. length r.plan) rules

pub record Sound (g : Grammar) : Type 0 where
  pub some_symbol : 1 ≤ length g.symbols
  pub few_symbols : length g.symbols ≤ 32
  pub symbols_sound : AllByRecursion SoundSymbol g.symbols
  pub start : (s : Symbol) → slice_get g.symbols 0 ≡ Some s → StartSymbol s
  pub some_rule : 1 ≤ length g.rules
  pub few_rules : length g.rules ≤ 64
  pub rules_sound : AllByRecursion (SoundRule g.symbols) g.rules
  pub few_sets : sets_in g.rules ≤ 512
  pub few_instructions : instructions_in g.rules ≤ 1024

-- a text is a sheet of g: it is g's writing, not too long, and g meets every rule
pub record SheetOf (text : List ℕ) (g : Grammar) : Type 0 where
  pub written : text ≡ write g
  pub some_text : 1 ≤ length text
  pub short_text : length text ≤ 32768
  pub sound : Sound g

-- just the texts that are sheets are accepted, each as the grammar that it writes
abbrev pub Acceptance : Type 0
Acceptance = (text : List ℕ) (g : Grammar) → (judge text ≡ sheet g → SheetOf text g) × (SheetOf text g → judge text ≡ sheet g)

-- The text begins as a sheet up to the plan of a rule, and that plan, in the last of these lines, breaks rule p and none
-- of a lesser number.
pub record PlanBroken (text : List ℕ) (line : ℕ) (p : PlanRule) : Type 0 where
  pub before : Grammar
  pub rule : Rule
  pub rest : List ℕ
  pub begins : text ≡ flat_map ended (lines_of before ++ group_of rule) ++ rest
  pub at_line : line ≡ length (lines_of before ++ group_of rule)
  pub broken : FirstBroken (scope_of_rule before.symbols rule) rule.equations rule.plan (Some p)

-- where a plan is refused, the rule that the fault names is broken, and every rule of a lesser number holds
abbrev pub PlanRefusals : Type 0
PlanRefusals = (text : List ℕ) (p : PlanRule) (n : ℕ) → judge text ≡ fault (record { refusal = Plan p; line = n }) → PlanBroken text n p
