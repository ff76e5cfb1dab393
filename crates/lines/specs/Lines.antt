-- What the lines of a sheet say.
use Rattle.std.specs.Prelude.{ℕ, cond, List, [], ◌∷◌, Some, None, Ok, Err, codes, Option, Result}
use Rattle.std.specs.Str.{bytes_eq}
use Rattle.words.specs.Tokens.{Token, number_of, pair_word}
use Rattle.grammar.specs.Forms.{attribute_word, argument_word, instruction_word, all_of, at_most}
use Rattle.grammar.specs.declared.terms.Argument.{Argument}
use Rattle.grammar.specs.declared.terms.Instruction.{Instruction}
use Rattle.grammar.specs.declared.refusal.Refusal.{Refusal}
use Rattle.grammar.specs.declared.refusal.Refusal.TheVariants.{LineForm}
use Rattle.lines.specs.LineKinds.{Line}
use Rattle.lines.specs.LineKinds.Line.{symbol_line, rule_line, set_line, plan_line}
use Rattle.lines.specs.declared.says.Key.{Key}
use Rattle.lines.specs.declared.says.Key.TheVariants.{OfSymbol, OfRule, OfSet, OfPlan}

abbrev pub key_in : List ℕ → Option Key
key_in name =
    cond (bytes_eq name (codes "symbol")) (Some OfSymbol)
    (cond (bytes_eq name (codes "rule")) (Some OfRule)
    (cond (bytes_eq name (codes "set")) (Some OfSet)
    (cond (bytes_eq name (codes "plan")) (Some OfPlan) None)))

-- a first word and the words behind it; the line's form comes before the number of words
abbrev pub together : {X Y Z : Type 0} → (X → Y → Z) → Option X → Result Y Refusal → Result Z Refusal
together f None r = Err LineForm
together f (Some x) (Err e) = Err e
together f (Some x) (Ok y) = Ok (f x y)

abbrev pub equation : ℕ × ℕ → ℕ × List Argument → Line
equation t f = set_line (record { occurrence = t.0; attribute = t.1; function = f.0; arguments = f.1 })

abbrev pub function_in : List Token → Result (ℕ × List Argument) Refusal
function_in [] = Err LineForm
function_in (f ∷ ws) = together (λ n xs. (n, xs)) (number_of f) (at_most 3 (all_of argument_word ws))

abbrev pub symbol_in : List Token → Result Line Refusal
symbol_in [] = Err LineForm
symbol_in (w ∷ ws) = together symbol_line (number_of w) (at_most 16 (all_of attribute_word ws))

abbrev pub rule_in : List Token → Result Line Refusal
rule_in [] = Err LineForm
rule_in (w ∷ ws) = together rule_line (number_of w) (at_most 4 (all_of number_of ws))

abbrev pub set_in : List Token → Result Line Refusal
set_in [] = Err LineForm
set_in (w ∷ ws) = together equation (pair_word w) (function_in ws)

abbrev pub planned_by : Option (List Instruction) → Result Line Refusal
planned_by None = Err LineForm
planned_by (Some is) = Ok (plan_line is)

abbrev pub plan_in : List Token → Result Line Refusal
plan_in ws = planned_by (all_of instruction_word ws)

-- what the words behind a key say, or that they are no such line or too many
abbrev pub parse : Key → List Token → Result Line Refusal
parse OfSymbol ws = symbol_in ws
parse OfRule ws = rule_in ws
parse OfSet ws = set_in ws
parse OfPlan ws = plan_in ws
