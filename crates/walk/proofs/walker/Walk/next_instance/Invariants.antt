use Rattle.std.proofs.Common.{◌≡◌}
use Rattle.places.specs.Places.{table}
use Rattle.sheet.specs.Answers.{grammar_of}
use Rattle.walk.specs.Ahead.{ahead, effort}
use Rattle.walk.specs.Stands.{stand_of}
use Rattle.walk.specs.Walking.{Walking}
use Rattle.walk.proofs.walker.Walk.next_instance.Given as goal

abbrev pub invariant-loop-self : goal.invariant-loop-self
invariant-loop-self l = Walking (grammar_of l.sheet) l.places (stand_of l.self)
    × (ahead (grammar_of l.sheet) (table (grammar_of l.sheet) l.places) (stand_of l.initial.self) ≡ ahead (grammar_of l.sheet) (table (grammar_of l.sheet) l.places) (stand_of l.self))

abbrev pub decreases-loop-self : goal.decreases-loop-self
decreases-loop-self l = effort (grammar_of l.sheet) (table (grammar_of l.sheet) l.places) (stand_of l.self)
