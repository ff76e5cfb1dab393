-- What a sheet keeps between readings.
use Rattle.std.specs.Prelude.{[]}
use Rattle.grammar.specs.Model.{Grammar}
use Rattle.reader.specs.Judgement.{Outcome, judge}
use Rattle.reader.specs.Judgement.Outcome.{sheet, fault}
use Rattle.sheet.specs.Writing.{write}

abbrev pub empty : Grammar
empty = record { symbols = []; rules = [] }

abbrev pub grammar_from : Outcome → Grammar
grammar_from (sheet g) = g
grammar_from (fault f) = empty

-- what is read again from the writing of a grammar
abbrev pub read_back : Grammar → Grammar
read_back g = grammar_from (judge (write g))
