-- What the calls on sheets answer.
use Rattle.std.specs.Prelude.{◌≡◌, ℕ, ◌-◌, List, length, Ok, Err, Result}
use Rattle.grammar.specs.Model.{Rule, Grammar}
use Rattle.grammar.specs.declared.refusal.PlanRule.{PlanRule}
use Rattle.grammar.specs.declared.refusal.Refusal.TheVariants.{Plan}
use Rattle.plans.specs.Groups.{group_equations, group_plan}
use Rattle.plans.specs.declared.Group.{Group}
use Rattle.reader.specs.Judgement.{Outcome, grammar_in}
use Rattle.reader.specs.Judgement.Outcome.{sheet, fault}
use Rattle.reader.specs.Views.{state_of}
use Rattle.reader.specs.declared.fault.Fault.{Fault}
use Rattle.reader.specs.declared.rows.Span.{Span}
use Rattle.sheet.specs.Kept.{empty}
use Rattle.sheet.specs.Meaning.{SheetOf, PlanBroken, sets_in, instructions_in}
use Rattle.sheet.specs.declared.counts.Counts.{Counts}
use Rattle.sheet.specs.declared.kept.Sheet.{Sheet}

-- the grammar that a sheet holds
abbrev pub grammar_of : Sheet → Grammar
grammar_of s = grammar_in (state_of s.tables)

-- reading answers just the judgement of the text; after a fault the sheet is empty
abbrev pub Judged : Result (Unit {0}) Fault → Outcome → Grammar → Type 0
Judged (Ok u) o g = o ≡ sheet g
Judged (Err f) o g = (o ≡ fault f) × (g ≡ empty)

-- In the subject's words: what was accepted is a sheet of that grammar; what was refused is a sheet of none. And where a
-- plan is refused, the rule that the fault names is broken there and every rule of a lesser number holds.
abbrev pub Means : Result (Unit {0}) Fault → List ℕ → Grammar → Type 0
Means (Ok u) text g = SheetOf text g
Means (Err f) text g = ((h : Grammar) → SheetOf text h → ⊥) × ((p : PlanRule) → f.refusal ≡ Plan p → PlanBroken text f.line p)

abbrev pub group_rule : Group → Rule
group_rule g = record { left = g.production.left; right = g.production.right.now; equations = group_equations g; plan = group_plan g }

abbrev pub size_of : Span → ℕ
size_of s = s.end - s.start

pub record Counted (c : Counts) (g : Grammar) : Type 0 where
  pub symbols_are : c.symbols ≡ length g.symbols
  pub rules_are : c.rules ≡ length g.rules
  pub sets_are : c.sets ≡ sets_in g.rules
  pub instructions_are : c.instructions ≡ instructions_in g.rules
