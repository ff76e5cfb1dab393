-- What climbing answers.
use Rattle.std.specs.Prelude.{◌≡◌, ℕ, List, Option}
use Rattle.places.specs.Shape.{climbs, top_from, depth_from}
use Rattle.places.specs.declared.climbing.Summit.{Summit}
use Rattle.places.specs.declared.node.Node.{Node}

-- where climbing from p ends, or breaks off after 64 places, how many places it passes, and whether it ends
pub record Climbed (ps : List (Option Node)) (p : ℕ) (c : Summit) : Type 0 where
  pub top_is : c.top ≡ top_from ps 64 p
  pub depth_is : c.depth ≡ depth_from ps 64 p
  pub ended_is : c.ended ≡ climbs ps 64 p
