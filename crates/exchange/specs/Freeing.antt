-- A block that is freed.
use Rattle.std.specs.Prelude.{◌≡◌, ℕ, ◌<◌, true, false, List, length, Some, None, Option, ◌≢◌, slice_index}
use Rattle.grammar.specs.Model.{Grammar}
use Rattle.places.specs.Places.{at, used}
use Rattle.places.specs.Shape.{top_from, SoundPlaces}
use Rattle.places.specs.declared.node.Node.{Node}

-- every place from which climbing ends at the block's root is free, and every other place as it was
pub record Freed (ps qs : List (Option Node)) (block : ℕ) : Type 0 where
  pub long : length qs ≡ length ps
  pub inside : (p : ℕ) → top_from ps 64 p ≡ block → at qs p ≡ None
  pub outside : (p : ℕ) → (top_from ps 64 p ≢ block) → at qs p ≡ at ps p

-- freeing keeps the places sound
abbrev pub FreeingLaw : Type 0
FreeingLaw = (g : Grammar) (ps qs : List (Option Node)) (block : ℕ) → SoundPlaces g ps → Freed ps qs block → SoundPlaces g qs

-- one of these children whose place is used, if there is one
abbrev pub UsedChild : List (Option Node) → List ℕ → Option ℕ → Type 0
UsedChild ps kids None = (k : ℕ) → k < length kids → used ps (slice_index kids k) ≡ false
UsedChild ps kids (Some child) = (used ps child ≡ true) × ((k : ℕ) × (k < length kids) × (child ≡ slice_index kids k))
