-- The kinds of lines of a sheet, and what each holds.
use Rattle.std.specs.Prelude.{ℕ, List}
use Rattle.grammar.specs.Model.{Equation}
use Rattle.grammar.specs.declared.terms.Attribute.{Attribute}
use Rattle.grammar.specs.declared.terms.Instruction.{Instruction}

pub data Line : Type 0 where
  symbol_line : (visits : ℕ) → List Attribute → Line
  rule_line : (left : ℕ) → List ℕ → Line
  set_line : Equation → Line
  plan_line : List Instruction → Line
