-- What the rows of the tables mean.
use Rattle.grammar.specs.Model.{Symbol, Equation}
use Rattle.grammar.specs.declared.rows.SymbolRow.{SymbolRow}
use Rattle.grammar.specs.declared.rows.Equation.{Equation as EquationOf}
use Rattle.std.specs.Prelude.{ℕ, Bool, ◌&&◌, ◌==◌}

abbrev pub symbol_of : SymbolRow → Symbol
symbol_of s = record { visits = s.visits; attributes = s.attributes.items }

-- an equation of a table or of a line, whatever type of the program its function has
abbrev pub EquationRow : Type 0
EquationRow = EquationOf ℕ

abbrev pub equation_of : EquationRow → Equation
equation_of e = record { occurrence = e.occurrence; attribute = e.attribute; function = e.function; arguments = e.arguments.items }

abbrev pub targets : Equation → ℕ → ℕ → Bool
targets e o a = e.occurrence == o && e.attribute == a
