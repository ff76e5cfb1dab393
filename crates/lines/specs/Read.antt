-- What came of reading the words of a line.
use Rattle.std.specs.Prelude.{◌≡◌, List, ◌∷◌, Some, None, Ok, Err, Option, Result}
use Rattle.words.specs.Tokens.{Token}
use Rattle.grammar.specs.Model.{Equation}
use Rattle.grammar.specs.Rows.{EquationRow as SetWords, equation_of}
use Rattle.grammar.specs.declared.rows.SymbolRow.{SymbolRow}
use Rattle.grammar.specs.declared.refusal.Refusal.{Refusal}
use Rattle.grammar.specs.declared.refusal.Refusal.TheVariants.{LineForm}
use Rattle.lines.specs.LineKinds.{Line}
use Rattle.lines.specs.LineKinds.Line.{symbol_line, rule_line, set_line}
use Rattle.lines.specs.declared.says.RuleSymbols.{RuleSymbols}

-- what came of reading the first word as f says; where it says something, the others are left
abbrev pub FirstRead : {X : Type 0} → (Token → Option X) → Result X Refusal → List Token → List Token → Type 0
FirstRead f (Ok x) was now = (w : Token) × (was ≡ w ∷ now) × (f w ≡ Some x)
FirstRead f (Err e) was now = (e ≡ LineForm) × ((w : Token) (ws : List Token) → was ≡ w ∷ ws → f w ≡ None)

abbrev pub symbol_read : Result SymbolRow Refusal → Result Line Refusal
symbol_read (Ok s) = Ok (symbol_line s.visits s.attributes.items)
symbol_read (Err e) = Err e

abbrev pub rule_read : Result RuleSymbols Refusal → Result Line Refusal
rule_read (Ok r) = Ok (rule_line r.left r.right.items)
rule_read (Err e) = Err e

abbrev pub set_of : SetWords → Equation
set_of s = equation_of s

abbrev pub set_read : Result SetWords Refusal → Result Line Refusal
set_read (Ok s) = Ok (set_line (set_of s))
set_read (Err e) = Err e
