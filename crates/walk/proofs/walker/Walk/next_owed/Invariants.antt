use Rattle.std.proofs.Common.{◌≡◌, List, ◌++◌, length}
use Rattle.places.specs.Places.{table}
use Rattle.sheet.specs.Answers.{grammar_of}
use Rattle.tour.specs.Trees.{Instance}
use Rattle.walk.specs.Ahead.{ahead}
use Rattle.walk.specs.Stands.{stand_of}
use Rattle.walk.specs.Walking.{Walking, Unowed}
use Rattle.walk.proofs.walker.Walk.next_owed.Given as goal

abbrev pub invariant-loop-found : goal.invariant-loop-found
invariant-loop-found l = Walking (grammar_of l.sheet) l.places (stand_of l.self)
    × ((xs : List Instance) × Unowed l.places xs
    × (ahead (grammar_of l.sheet) (table (grammar_of l.sheet) l.places) (stand_of l.initial.self) ≡ xs ++ ahead (grammar_of l.sheet) (table (grammar_of l.sheet) l.places) (stand_of l.self)))

abbrev pub decreases-loop-found : goal.decreases-loop-found
decreases-loop-found l = length (ahead (grammar_of l.sheet) (table (grammar_of l.sheet) l.places) (stand_of l.self))
