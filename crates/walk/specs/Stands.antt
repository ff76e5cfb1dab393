-- Where a walk stands.
use Rattle.std.specs.Prelude.{ℕ, List, reverse, length}
use Rattle.places.specs.Stack.{stacked}
use Rattle.places.specs.declared.pushdown.Frame.{Frame}
use Rattle.walk.specs.declared.walker.Mode.{Mode}
use Rattle.walk.specs.declared.walker.Walk.{Walk}

-- its mode, place and instruction, the visits that it is in with the innermost first, and how many there is room for
pub record Stand : Type 0 where
  pub mode : Mode
  pub place : ℕ
  pub next : ℕ
  pub frames : List Frame
  pub room : ℕ

abbrev pub stand_of : Walk → Stand
stand_of w = record {
  mode = w.mode;
  place = w.place;
  next = w.next;
  frames = reverse (stacked w.frames.now.cells.now w.frames.now.len);
  room = length w.frames.now.cells.now;
}
