-- What the tables mean.
use Rattle.std.specs.Prelude.{◌≡◌, ℕ, true, List, ◌∷◌, map, drop, Ok, Err, vec_items, vec_len, Result}
use Rattle.std.specs.List.{between}
use Rattle.std.specs.Option.{option_map}
use Rattle.grammar.specs.Model.{Rule}
use Rattle.grammar.specs.Rows.{EquationRow, symbol_of, equation_of}
use Rattle.grammar.specs.Scopes.{Scope}
use Rattle.grammar.specs.declared.rows.SymbolRow.{SymbolRow}
use Rattle.grammar.specs.declared.terms.Instruction.{Instruction}
use Rattle.grammar.specs.declared.refusal.Refusal.{Refusal}
use Rattle.reader.specs.Judgement.{Outcome, grammar_in, whole}
use Rattle.reader.specs.Judgement.Outcome.{sheet, fault}
use Rattle.reader.specs.Steps.{Open, State, Step, nothing}
use Rattle.reader.specs.declared.fault.Fault.{Fault}
use Rattle.reader.specs.Steps.Step.{next, stop}
use Rattle.reader.specs.declared.rows.Span.{Span}
use Rattle.reader.specs.declared.rows.RuleRow.{RuleRow}
use Rattle.reader.specs.declared.rows.Opened.{Opened}
use Rattle.reader.specs.declared.tables.Tables.{Tables}

abbrev pub part : {X : Type 0} → Span → List X → List X
part s xs = between s.start s.end xs

abbrev pub rule_of : List EquationRow → List Instruction → RuleRow → Rule
rule_of es is r = record { left = r.rule.left; right = r.rule.right.items; equations = map equation_of (part r.equations es); plan = part r.plan is }

abbrev pub open_of : List EquationRow → Opened → Open
open_of es o = record { left = o.rule.left; right = o.rule.right.items; equations = map equation_of (drop o.start es) }

-- the symbols at the occurrences of the rule that is open
abbrev pub open_scope : List SymbolRow → Opened → Scope
open_scope symbols o = record { symbols = map symbol_of symbols; occurrences = o.rule.left ∷ o.rule.right.items }

abbrev pub rules_of : Tables → List Rule
rules_of t = map (rule_of (vec_items t.equations) (vec_items t.plan)) (vec_items t.rules)

abbrev pub state_of : Tables → State
state_of t = record {
  symbols = map symbol_of (vec_items t.symbols);
  rules = rules_of t;
  opened = option_map (open_of (vec_items t.equations)) t.opened;
  sets = vec_len t.equations;
  steps = vec_len t.plan;
}

-- the tables after a step; what they hold after a refusal is left open, since the whole sheet is emptied then
abbrev pub Stepped : Result (Unit {0}) Refusal → Step → Tables → Type 0
Stepped (Ok u) s t = s ≡ next (state_of t)
Stepped (Err e) s t = s ≡ stop e

abbrev pub LineRead : Result (Unit {0}) Fault → Step → ℕ → Tables → Type 0
LineRead (Ok u) s n t = s ≡ next (state_of t)
LineRead (Err f) s n t = (s ≡ stop f.refusal) × (f.line ≡ n)

-- the tables after all lines
abbrev pub TextRead : Result (Unit {0}) Fault → Outcome → Tables → Type 0
TextRead (Ok u) o t = (o ≡ sheet (grammar_in (state_of t))) × (whole (state_of t) ≡ true)
TextRead (Err f) o t = o ≡ fault f

-- what reading answers, and what the tables hold then: the sheet, whole; or nothing
abbrev pub Answered : Result (Unit {0}) Fault → Outcome → Tables → Type 0
Answered (Ok u) o t = (o ≡ sheet (grammar_in (state_of t))) × (whole (state_of t) ≡ true)
Answered (Err f) o t = (o ≡ fault f) × (state_of t ≡ nothing)
