-- A grammar as plain lists.
use Rattle.std.specs.Prelude.{ℕ, List}
use Rattle.grammar.specs.declared.terms.Attribute.{Attribute}
use Rattle.grammar.specs.declared.terms.Argument.{Argument}
use Rattle.grammar.specs.declared.terms.Instruction.{Instruction}

-- how often a tour comes to it, and its attributes
pub record Symbol : Type 0 where
  pub visits : ℕ
  pub attributes : List Attribute

-- the target is an attribute of an occurrence; the function takes the arguments
pub record Equation : Type 0 where
  pub occurrence : ℕ
  pub attribute : ℕ
  pub function : ℕ
  pub arguments : List Argument

-- occurrence 0 is the left symbol, 1 to 4 are the right ones
pub record Rule : Type 0 where
  pub left : ℕ
  pub right : List ℕ
  pub equations : List Equation
  pub plan : List Instruction

-- symbols and rules are numbered from 0; symbol 0 is the start
pub record Grammar : Type 0 where
  pub symbols : List Symbol
  pub rules : List Rule
