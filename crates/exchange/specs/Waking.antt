-- Places whose marks have changed, and nothing else.
use Rattle.std.specs.Prelude.{◌≡◌, ℕ, Bool, not, ◌&&◌, ◌||◌, List, length, Option, ◌==◌}
use Rattle.std.specs.Option.{option_map}
use Rattle.tour.specs.Trees.{Instance}
use Rattle.places.specs.Places.{at, used, owed_at}
use Rattle.places.specs.declared.node.Node.{Node}
use Rattle.exchange.specs.Setting.{with_marks}

-- a place without its marks
abbrev pub bare : Option Node → Option Node
bare x = option_map (with_marks 0) x

-- every place is as it was but for its marks, and an instance is owed as the function says of whether it was
pub record Remarked (ps qs : List (Option Node)) (owed : Instance → Bool → Bool) : Type 0 where
  pub long : length qs ≡ length ps
  pub nodes : (p : ℕ) → bare (at qs p) ≡ bare (at ps p)
  pub marks : (p a : ℕ) → owed_at qs (p, a) ≡ owed (p, a) (owed_at ps (p, a))

-- these instances, as far as there are nodes, have become owed
abbrev pub Woke : List (Option Node) → List (Option Node) → (Instance → Bool) → Type 0
Woke ps qs these = Remarked ps qs (λ x b. b || (used ps x.0 && these x))

-- these instances are owed no more
abbrev pub Slept : List (Option Node) → List (Option Node) → (Instance → Bool) → Type 0
Slept ps qs these = Remarked ps qs (λ x b. b && not (these x))

-- attribute a of the node at p, and no other instance
abbrev pub is_at : ℕ → ℕ → Instance → Bool
is_at p a x = x.0 == p && x.1 == a
