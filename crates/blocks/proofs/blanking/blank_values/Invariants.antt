use Rattle.std.proofs.Common.{◌≡◌, drop}
use Rattle.sheet.specs.Answers.{grammar_of}
use Rattle.blocks.specs.Blank.{blanked}
use Rattle.places.specs.Totals.{free}
use Rattle.blocks.specs.Taken.{free_after}
use Rattle.blocks.proofs.blanking.blank_values.Given as goal

abbrev pub invariant-loop-piece : goal.invariant-loop-piece
invariant-loop-piece g l = blanked (grammar_of l.sheet) l.blank l.block (free l.places) l.initial.values ≡ blanked (grammar_of l.sheet) l.blank (drop l.piece-index l.block) (free_after l.next l.places) l.values
