-- How a grammar is written as a sheet. Nothing here speaks of reading.
use Rattle.std.specs.Prelude.{ℕ, List, [], ◌∷◌, ◌++◌, map, codes, decimal}
use Rattle.std.specs.List.{flat_map}
use Rattle.grammar.specs.Model.{Symbol, Rule, Grammar}
use Rattle.grammar.specs.declared.terms.Flow.{Flow}
use Rattle.grammar.specs.declared.terms.Flow.TheVariants.{Inherited, Synthesized}
use Rattle.grammar.specs.declared.terms.Attribute.{Attribute}
use Rattle.grammar.specs.declared.terms.Argument.{Argument}
use Rattle.grammar.specs.declared.terms.Argument.TheVariants.{Datum, Of}
use Rattle.grammar.specs.declared.terms.Instruction.{Instruction}
use Rattle.grammar.specs.declared.terms.Instruction.TheVariants.{Evaluate, Visit, Return}
use Rattle.lines.specs.LineKinds.{Line}
use Rattle.lines.specs.LineKinds.Line.{symbol_line, rule_line, set_line, plan_line}

-- two numbers with a dot between them
abbrev pub write_pair : ℕ → ℕ → List ℕ
write_pair x y = decimal x ++ 46 ∷ decimal y

abbrev pub letter : Flow → ℕ
letter Inherited = 73
letter Synthesized = 83

abbrev pub write_attribute : Attribute → List ℕ
write_attribute x = letter x.flow ∷ decimal x.visit

abbrev pub write_argument : Argument → List ℕ
write_argument Datum = 100 ∷ []
write_argument (Of o a) = write_pair o a

abbrev pub write_instruction : Instruction → List ℕ
write_instruction (Evaluate o a) = 101 ∷ write_pair o a
write_instruction (Visit k j) = 118 ∷ write_pair k j
write_instruction (Return j) = 114 ∷ decimal j

-- words with one space between them
abbrev pub spaced : List (List ℕ) → List ℕ
spaced [] = []
spaced (w ∷ []) = w
spaced (w ∷ v ∷ ws) = w ++ 32 ∷ spaced (v ∷ ws)

-- a line, without the byte that ends it
abbrev pub write_line : Line → List ℕ
write_line (symbol_line v xs) = codes "symbol=" ++ spaced (decimal v ∷ map write_attribute xs)
write_line (rule_line l rs) = codes "rule=" ++ spaced (decimal l ∷ map decimal rs)
write_line (set_line e) = codes "set=" ++ spaced (write_pair e.occurrence e.attribute ∷ decimal e.function ∷ map write_argument e.arguments)
write_line (plan_line is) = codes "plan=" ++ spaced (map write_instruction is)

abbrev pub ended : Line → List ℕ
ended l = write_line l ++ 10 ∷ []

abbrev pub symbol_line_of : Symbol → Line
symbol_line_of s = symbol_line s.visits s.attributes

-- a rule, its equations and its plan
abbrev pub group_of : Rule → List Line
group_of r = rule_line r.left r.right ∷ (map set_line r.equations ++ plan_line r.plan ∷ [])

abbrev pub lines_of : Grammar → List Line
lines_of g = map symbol_line_of g.symbols ++ flat_map group_of g.rules

abbrev pub write : Grammar → List ℕ
write g = flat_map ended (lines_of g)
