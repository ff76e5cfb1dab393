use Rattle.std.proofs.Common.{length}
use Rattle.reader.specs.Views.{state_of}
use Rattle.reader.proofs.Folding.{ReadSoFar}
use Rattle.reader.proofs.tables.Tables.read_lines.Given as goal

abbrev pub invariant-loop-line : goal.invariant-loop-line
invariant-loop-line l = ReadSoFar l.text (state_of l.initial.self) l.at (state_of l.self) l.rest

abbrev pub decreases-loop-line : goal.decreases-loop-line
decreases-loop-line l = length l.rest
